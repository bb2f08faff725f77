use Rattle.std.proofs.Common.{arith}
use Rattle.turn_check.specs.Named.{signal_names}
use Rattle.turn_check.proofs.NameLists.{nowhere, few_signals}
use Rattle.turn_check.proofs.verified.Verified.signal_of.Goals as goal

pub returns-clause-none : goal.returns-clause-none
returns-clause-none c =
    nowhere (signal_names c.args.self.now) c.args.name.now c.loop-number.number
    (let few = few_signals c.args.self.now c.draft.ensures.valid in omega arith) c.loop-number.invariant
