use Rattle.line_play.specs.SetDoing.{stood}
use Rattle.line_play.proofs.SetLeaving.{at_rest}
use Rattle.line_play.proofs.set.state.SetState.depart.Goals as goal

pub returns-in-Stays : goal.returns-in-Stays
returns-in-Stays c = at_rest (stood c.args.self.now) c.in-Stays.is
