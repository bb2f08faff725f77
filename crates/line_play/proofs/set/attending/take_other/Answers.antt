use Rattle.std.proofs.Common.{sym, ◌∙◌}
use Rattle.line_play.specs.SetDoing.{stood}
use Rattle.line_play.proofs.SetQueues.{takes_bad, takes_report}
use Rattle.line_play.proofs.set.attending.take_other.Goals as goal

pub returns-then-ignored : goal.returns-then-ignored
returns-then-ignored g c = λ waiting. takes_report _ (stood c.args.state.now) waiting _ (sym c.in_ok-ignored.ensures ∙ c.if-ignored.true)

pub returns : goal.returns
returns g c = λ waiting.
    takes_bad c.refuse.result _ (stood c.args.state.now) (stood c.unselect.new.self) waiting _ _ (sym c.in_ok-ignored.ensures ∙ c.if-ignored.false)
    c.in_ok-unselect.ensures c.refuse.ensures
