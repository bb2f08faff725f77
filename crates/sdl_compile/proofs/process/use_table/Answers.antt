use Rattle.std.proofs.Common.{arith}
use Rattle.std.proofs.lemmas.List.{length-map}
use Rattle.sdl_ast.specs.Views.{block_of, process_of}
use Rattle.sdl_tables.specs.Names.{Variable, variables_of}
use Rattle.sdl_meaning.specs.Act.{scope_of}
use Rattle.sdl_compile.proofs.process.use_table.Goals as goal

pub invariant_of-names-clause-used : goal.invariant_of-names-clause-used
invariant_of-names-clause-used c = c.empty-none.ensures (scope_of (block_of c.args.block.now) (process_of c.args.table.now))

pub invariant_of-names-clause-few_variables : goal.invariant_of-names-clause-few_variables
invariant_of-names-clause-few_variables c = let few = c.requires.ready.variables in omega (arith, few, length-map (variables_of (process_of c.args.table.now)) (λ (v : Variable). v.name))
