use Rattle.std.proofs.Common.{◌≡◌, true, false, ap, sym, ◌∙◌}
use Rattle.script_lines.specs.Numbers.{is_digits}
use Rattle.line_filter.proofs.Digits.{fits_long, unread_long, no_digits_long}
use Rattle.line_filter.proofs.times.millisecond.Goals as goal

pub returns-then-not-is_digits : goal.returns-then-not-is_digits
returns-then-not-is_digits c =
    let none : is_digits c.args.word.now ≡ false = ap is_digits (sym c.as_bytes.ensures.value) ∙ (sym c.is_digits.ensures ∙ c.if-not-is_digits.true) in
    no_digits_long c.args.word.now none

pub returns-in-Ok : goal.returns-in-Ok
returns-in-Ok c =
    let digits : is_digits c.args.word.now ≡ true = ap is_digits (sym c.as_bytes.ensures.value) ∙ (sym c.is_digits.ensures ∙ c.if-not-is_digits.false) in
    fits_long c.args.word.now c.in-Ok.number digits c.in-Ok.ensures.value.0

pub returns-in-Err : goal.returns-in-Err
returns-in-Err c =
    let digits : is_digits c.args.word.now ≡ true = ap is_digits (sym c.as_bytes.ensures.value) ∙ (sym c.is_digits.ensures ∙ c.if-not-is_digits.false) in
    unread_long c.args.word.now digits c.in-Err.ensures.value.0
