use Rattle.std.proofs.Common.{arith}
use Rattle.turn_check.specs.Named.{process_names}
use Rattle.turn_check.proofs.NameLists.{nowhere, few_processes}
use Rattle.turn_check.proofs.verified.Verified.process_of.Goals as goal

pub returns-clause-none : goal.returns-clause-none
returns-clause-none c =
    nowhere (process_names c.args.self.now) c.args.name.now c.loop-number.number
    (let few = few_processes c.args.self.now c.draft.ensures.valid in omega arith) c.loop-number.invariant
