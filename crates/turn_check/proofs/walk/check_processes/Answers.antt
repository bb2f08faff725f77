use Rattle.std.proofs.Common.{ap, arith, below_more, length, rules}
use Rattle.turn_check.proofs.FirstFaults.{first_of_draft}
use Rattle.turn_check.proofs.Whole.{draft_below}
use Rattle.turn_check.specs.Walk.{IsValidProcess}
use Rattle.turn_check.proofs.walk.check_processes.Goals as goal

pub returns-clause-ok : goal.returns-clause-ok
returns-clause-ok c = draft_below c.args.draft.now c.requires c.loop-number.number
    (omega (arith, ap (λ d. length d.processes) c.plain.ensures)) c.loop-number.invariant

pub returns-in_err-check_process_at-clause-first :
    goal.returns-in_err-check_process_at-clause-first
returns-in_err-check_process_at-clause-first c =
    let first =
    first_of_draft c.args.draft.now c.loop-number.number _ c.requires c.in_err-check_process_at.ensures.first c.loop-number.invariant in
    search (rules, first)

pub loop-number-preserved : goal.loop-number-preserved
loop-number-preserved c =
    below_more (λ n. IsValidProcess c.args.draft.now n) c.loop-number.number c.loop-number.invariant c.in_ok-check_process_at.ensures.ok
