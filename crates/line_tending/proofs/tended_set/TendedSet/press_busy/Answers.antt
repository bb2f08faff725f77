use Rattle.std.proofs.Common.{◌∙◌, ap, sym, true≢false}
use Rattle.std.proofs.lemmas.Result.{on_ok_weaker}
use Rattle.line_tending.specs.Readers.{is_busy}
use Rattle.line_tending.proofs.Acting.{on_ok_so}
use Rattle.line_tending.proofs.tended_set.TendedSet.press_busy.Goals as goal

pub returns-then-not-is_busy-clause-busy : goal.returns-then-not-is_busy-clause-busy
returns-then-not-is_busy-clause-busy c = λ busy.
    absurd (true≢false (sym busy ∙ (ap is_busy (sym c.reader.ensures) ∙ (sym c.is_busy.ensures ∙ c.if-not-is_busy.true))))

pub returns-clause-busy : goal.returns-clause-busy
returns-clause-busy c = on_ok_weaker c.press_by.result (λ pressed busy. pressed) c.press_by.ensures.pressed

pub returns-clause-free : goal.returns-clause-free
returns-clause-free c =
    on_ok_so c.press_by.result
    (λ off. absurd (true≢false (sym (ap is_busy (sym c.reader.ensures) ∙ (sym c.is_busy.ensures ∙ c.if-not-is_busy.false)) ∙ off)))
