use Rattle.std.proofs.Common.{IsTrue, arith, rules}
use Rattle.turn_check.proofs.Whole.{limits_at}
use Rattle.turn_check.proofs.walk.check_start.Goals as goal

pub returns-then-not-process_keeps_limits-clause-err : goal.returns-then-not-process_keeps_limits-clause-err
returns-then-not-process_keeps_limits-clause-err c = λ at.
    let yes : IsTrue c.process_keeps_limits.result =
    c.process_keeps_limits.ensures.1 (limits_at c.args.draft.now c.args.number.0 c.args.process.now c.requires.process at) in
    first_of (cc, grind arith, search rules)
