use Rattle.std.proofs.Common.{◌≡◌, false, sym, ap, ◌∙◌}
use Rattle.std.specs.Str.{is_utf8}
use Rattle.std.proofs.lemmas.Bool.{false_from_ne_true}
use Rattle.std.proofs.lemmas.Result.{IfOk-weaker}
use Rattle.std.proofs.lemmas.Str.{IsUtf8-from_is_utf8, is_utf8-from_IsUtf8}
use Rattle.script_lines.specs.Words.{words_of}
use Rattle.line_filter.specs.Says.{order, says_of}
use Rattle.line_filter.specs.Streams.{line_says}
use Rattle.line_filter.proofs.Looking.{long_says, no_text_says, text_says}
use Rattle.line_filter.proofs.lines.says.Goals as goal

pub returns-then-line-gt-MOST_OCTETS : goal.returns-then-line-gt-MOST_OCTETS
returns-then-line-gt-MOST_OCTETS c = ap order c.new.ensures.bytes ∙ sym (long_says c.args.line.now c.if-line-gt-MOST_OCTETS.true)

pub returns-in-Ok : goal.returns-in-Ok
returns-in-Ok c =
    let read = c.in-Ok.ensures.cases in
    let same : line_says c.args.line.now ≡ says_of (words_of c.args.line.now) =
    text_says c.args.line.now c.if-line-gt-MOST_OCTETS.false (is_utf8-from_IsUtf8 _ read.1) in
    IfOk-weaker c.line_says.result _ _ (λ s h. h ∙ (ap (λ t. says_of (words_of t)) read.0 ∙ sym same)) c.line_says.ensures

pub returns-in-Err : goal.returns-in-Err
returns-in-Err c =
    let none : is_utf8 c.args.line.now ≡ false = false_from_ne_true _ (λ e. c.in-Err.ensures.cases.0 (IsUtf8-from_is_utf8 _ e)) in
    ap order c.new-in-Err.ensures.bytes ∙ sym (no_text_says c.args.line.now none)
