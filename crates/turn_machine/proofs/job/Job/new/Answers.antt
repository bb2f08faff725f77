use Rattle.std.proofs.Common.{◌≤◌, length, sym, ◌∙◌, subst}
use Rattle.turn_check.specs.Seen.{seen}
use Rattle.turn_machine.specs.Given.{input_of}
use Rattle.turn_machine.proofs.Jobs.{code_small, job_runs}
use Rattle.turn_machine.proofs.job.Job.new.Goals as goal

pub copied_code-requires : goal.copied_code-requires
copied_code-requires c =
    subst (λ u. length u ≤ 512) (sym c.as_slice.ensures)
    (code_small c.args.verified.now c.args.head.process.0 c.args.head.place c.args.head.input_number (seen c.in-Some.transition) c.draft.ensures.valid
    c.in-Some.ensures)

pub invariant_of-result : goal.invariant_of-result
invariant_of-result c =
    job_runs c.args.verified.now c.args.head.actor c.args.head.turn c.args.head.process c.args.head.place c.args.head.input_number
    (input_of c.args.variables c.args.received) (seen c.in-Some.transition) c.copied_code.result.items c.sorts.result c.draft.ensures.valid
    c.in-Some.ensures c.requires (c.copied_code.ensures ∙ c.as_slice.ensures) c.sorts.ensures
