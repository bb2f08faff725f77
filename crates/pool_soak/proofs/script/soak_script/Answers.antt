use Rattle.std.proofs.Common.{◌+◌, ◌==◌, ◌∙◌, Err, ap, sym, take}
use Rattle.std.specs.Prelude.{count_by}
use Rattle.plain_text.specs.Reading.{LONGEST}
use Rattle.pool_soak.proofs.Loops.{long}
use Rattle.pool_soak.proofs.script.soak_script.Goals as goal

pub returns-then-text-gt-MOST_BYTES-clause-fault : goal.returns-then-text-gt-MOST_BYTES-clause-fault
returns-then-text-gt-MOST_BYTES-clause-fault c =
    long c.args.text.now c.if-text-gt-MOST_BYTES.true
    ∙ ap Err (sym (c.line_at_limit.ensures ∙ ap (λ t. count_by (λ b. b == 10) (take LONGEST t) + 1) c.as_bytes.ensures.value))
