use Rattle.line_play.specs.SetDoing.{stood}
use Rattle.line_play.proofs.SetTelling.{answered_as}
use Rattle.line_play.proofs.SetObeying.{bare_text, marked_text}
use Rattle.line_play.proofs.set.state.SetState.refuse.Goals as goal

pub returns-then-is_bare : goal.returns-then-is_bare
returns-then-is_bare g c =
    answered_as c.say_text.result _ _ (stood c.args.self.now) _ _
    (bare_text (stood c.args.self.now) c.args.text.now c.args.why.now _ (c.is_bare.ensures.mark c.if-is_bare.true) (c.is_bare.ensures.some c.if-is_bare.true) c.in_ok-format.ensures.ok)
    c.say_text.ensures

pub returns : goal.returns
returns g c =
    answered_as c.say_text-2.result _ _ (stood c.args.self.now) _ _
    (marked_text (stood c.args.self.now) c.args.text.now c.args.why.now _ (c.is_bare.ensures.none c.if-is_bare.false) c.in_ok-format-2.ensures.ok) c.say_text-2.ensures
