use Rattle.std.proofs.Common.{arith}
use Rattle.turn_check.specs.Named.{variable_names}
use Rattle.turn_check.proofs.NameLists.{nowhere, few_variables}
use Rattle.turn_check.proofs.verified.Verified.variable_of.Goals as goal

pub returns-clause-none : goal.returns-clause-none
returns-clause-none c =
    nowhere (variable_names c.args.self.now c.args.process.0) c.args.name.now c.loop-number.number
    (let few = few_variables c.args.self.now c.args.process.0 c.draft.ensures.valid in omega arith) c.loop-number.invariant
