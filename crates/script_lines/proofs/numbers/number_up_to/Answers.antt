use Rattle.std.proofs.Common.{◌≡◌, true, false, ap, sym, ◌∙◌, arith}
use Rattle.script_lines.specs.Numbers.{is_digits}
use Rattle.script_lines.proofs.NumberLemmas.{no_digits, fits, past, unread}
use Rattle.script_lines.proofs.numbers.number_up_to.Goals as goal

pub returns-then-not-is_digits-clause-value : goal.returns-then-not-is_digits-clause-value
returns-then-not-is_digits-clause-value c =
    let none : is_digits c.args.word.now ≡ false = ap is_digits (sym c.as_bytes.ensures.value) ∙ (sym c.is_digits.ensures ∙ c.if-not-is_digits.true) in
    no_digits c.args.most c.args.word.now none

pub returns-in-Ok-clause-value : goal.returns-in-Ok-clause-value
returns-in-Ok-clause-value c =
    let digits : is_digits c.args.word.now ≡ true = ap is_digits (sym c.as_bytes.ensures.value) ∙ (sym c.is_digits.ensures ∙ c.if-not-is_digits.false) in
    fits c.args.most c.args.word.now c.in-Ok.number digits c.in-Ok.ensures.value.0 (omega arith)

pub returns-in_default-clause-value : goal.returns-in_default-clause-value
returns-in_default-clause-value c =
    let digits : is_digits c.args.word.now ≡ true = ap is_digits (sym c.as_bytes.ensures.value) ∙ (sym c.is_digits.ensures ∙ c.if-not-is_digits.false) in
    past c.args.most c.args.word.now c.in-Ok.number digits c.in-Ok.ensures.value.0 (omega arith)

pub returns-in_default-2-clause-value : goal.returns-in_default-2-clause-value
returns-in_default-2-clause-value c =
    let digits : is_digits c.args.word.now ≡ true = ap is_digits (sym c.as_bytes.ensures.value) ∙ (sym c.is_digits.ensures ∙ c.if-not-is_digits.false) in
    unread c.args.most c.args.word.now (omega (arith, c.ranges.most.fits)) digits c.in_default.ensures.value.0
