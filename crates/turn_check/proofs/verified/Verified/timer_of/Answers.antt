use Rattle.std.proofs.Common.{arith}
use Rattle.turn_check.specs.Named.{timer_names}
use Rattle.turn_check.proofs.NameLists.{nowhere, few_timers}
use Rattle.turn_check.proofs.verified.Verified.timer_of.Goals as goal

pub returns-clause-none : goal.returns-clause-none
returns-clause-none c =
    nowhere (timer_names c.args.self.now c.args.process.0) c.args.name.now c.loop-number.number
    (let few = few_timers c.args.self.now c.args.process.0 c.draft.ensures.valid in omega arith) c.loop-number.invariant
