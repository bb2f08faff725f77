use Rattle.std.proofs.Common.{ap, ◌∙◌}
use Rattle.line_tending.specs.Texts.{table_text}
use Rattle.line_play.specs.SetDoing.{stood}
use Rattle.line_play.proofs.SetTelling.{answered_as}
use Rattle.line_play.proofs.set.state.SetState.tell_table.Goals as goal

pub returns : goal.returns
returns g c =
    answered_as c.say_text.result _ _ (stood c.args.self.now) _ _ (c.in_ok-format.ensures.ok ∙ ap table_text c.shared_out-table.ensures) c.say_text.ensures
