use Rattle.std.proofs.Common.{◌+◌, ◌==◌, ◌∙◌, Err, ap, sym, take}
use Rattle.std.specs.Prelude.{count_by}
use Rattle.plain_text.specs.Reading.{LONGEST}
use Rattle.std.proofs.lemmas.Result.{IfOk-weaker}
use Rattle.script_lines.specs.Scripts.{plain_script}
use Rattle.script_lines.proofs.Loops.{long}
use Rattle.script_lines.proofs.Ranges.{script_fits}
use Rattle.script_lines.proofs.script.book_script.Goals as goal

pub returns-then-text-gt-MOST_BYTES-clause-fault : goal.returns-then-text-gt-MOST_BYTES-clause-fault
returns-then-text-gt-MOST_BYTES-clause-fault c =
    long c.args.text.now c.if-text-gt-MOST_BYTES.true
    ∙ ap Err (sym (c.line_at_limit.ensures ∙ ap (λ t. count_by (λ b. b == 10) (take LONGEST t) + 1) c.as_bytes.ensures.value))

pub returns-clause-within : goal.returns-clause-within
returns-clause-within c = IfOk-weaker c.script_in.result _ _ (λ s is. script_fits c.args.text.now (plain_script s) is) c.script_in.ensures.script
