use Rattle.std.proofs.Common.{◌≡◌, ◌+◌, ◌==◌, ◌∙◌, Err, Ok, IfOk, IfErr, ap, sym, subst, take, Result, ℕ}
use Rattle.std.specs.Prelude.{count_by}
use Rattle.plain_text.specs.Reading.{LONGEST}
use Rattle.script_links.specs.TermScripts.{PlainAnyScript, plain_any_script, Tells}
use Rattle.script_links.proofs.Readings.{long, short}
use Rattle.script_links.proofs.script.any_script.Goals as goal

pub returns-then-text-gt-MOST_BYTES-clause-fault : goal.returns-then-text-gt-MOST_BYTES-clause-fault
returns-then-text-gt-MOST_BYTES-clause-fault c =
    long c.args.text.now c.if-text-gt-MOST_BYTES.true
    ∙ ap Err (sym (c.line_at_limit.ensures ∙ ap (λ t. count_by (λ b. b == 10) (take LONGEST t) + 1) c.as_bytes.ensures.value))

pub returns-clause-script : goal.returns-clause-script
returns-clause-script c =
    let P : Result PlainAnyScript ℕ → Type 0 = λ r. IfOk c.script_in.result (λ s. r ≡ Ok (plain_any_script s)) in
    subst P (sym (short c.args.text.now c.if-text-gt-MOST_BYTES.false)) c.script_in.ensures.script

pub returns-clause-fault : goal.returns-clause-fault
returns-clause-fault c =
    let P : Result PlainAnyScript ℕ → Type 0 = λ r. IfErr c.script_in.result (Tells r) in
    subst P (sym (short c.args.text.now c.if-text-gt-MOST_BYTES.false)) c.script_in.ensures.fault
