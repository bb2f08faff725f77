use Rattle.std.proofs.Common.{◌∙◌, sym}
use Rattle.std.proofs.lemmas.Result.{on_ok_weaker}
use Rattle.line_tending.proofs.Reading.{pressed_by, pressed_not}
use Rattle.line_tending.proofs.tended_set.TendedSet.press_by.Goals as goal

pub returns-then-is_left-clause-pressed : goal.returns-then-is_left-clause-pressed
returns-then-is_left-clause-pressed c = pressed_not c.args.link _ c.args.command _ (sym c.is_left.ensures ∙ c.if-is_left.true)

pub returns-clause-pressed : goal.returns-clause-pressed
returns-clause-pressed c =
    on_ok_weaker c.offer.result (λ was. pressed_by c.args.link _ c.args.command c.args.self.now.set c.offer.new.self.set (sym c.is_left.ensures ∙ c.if-is_left.false) was) c.offer.ensures.given
