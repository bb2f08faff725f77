use Rattle.line_play.specs.SetDoing.{stood}
use Rattle.line_play.proofs.SetTelling.{lines_shown}
use Rattle.line_play.proofs.set.state.SetState.tell_asked.Goals as goal

pub returns-in-Table : goal.returns-in-Table
returns-in-Table g c = rw c.in-Table.is c.tell_table.ensures

pub returns-in-Unsure : goal.returns-in-Unsure
returns-in-Unsure g c = rw c.in-Unsure.is c.tell_unsure.ensures

pub returns-in-Held : goal.returns-in-Held
returns-in-Held g c = rw c.in-Held.is c.tell_all_held.ensures

pub returns-in_default : goal.returns-in_default
returns-in_default g c =
    lines_shown c.tell_of_links.result c.args.order.now c.args.links.now (stood c.args.self.now) _ _ c.in_default.not-Table c.in_default.not-Unsure c.in_default.not-Held
    c.tell_of_links.ensures
