use Rattle.line_play.specs.SetDoing.{stood}
use Rattle.line_play.proofs.SetObeying.{kept_so, unselected_so}
use Rattle.line_play.proofs.set.state.SetState.unselect.Goals as goal

pub returns-then-not-is_on : goal.returns-then-not-is_on
returns-then-not-is_on c = kept_so c.args.text.now (stood c.args.self.now) _ c.in_ok-is_on.ensures c.if-not-is_on.true

pub returns : goal.returns
returns c = unselected_so c.args.text.now (stood c.args.self.now) _ c.in_ok-is_on.ensures c.if-not-is_on.false
