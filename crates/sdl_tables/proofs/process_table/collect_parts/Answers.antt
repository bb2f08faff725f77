use Rattle.std.proofs.Common.{[]}
use Rattle.std.specs.List.{flat_map}
use Rattle.sdl_ast.specs.Plain.{PlainState}
use Rattle.sdl_ast.specs.Views.{state_of}
use Rattle.sdl_tables.specs.Names.{clause_parts}
use Rattle.sdl_tables.proofs.Growing.{join_on}
use Rattle.sdl_tables.proofs.process_table.collect_parts.Goals as goal
use Rattle.plain_laws.proofs.Lists.{mapped_more}

pub loop-part-preserved : goal.loop-part-preserved
loop-part-preserved c =
    join_on (λ (p : PlainState). flat_map clause_parts p.clauses) [] _ _ _ _ _
    (mapped_more state_of c.args.states.now c.loop-part.part-index c.part-item.result c.loop-part-test.true c.part-item.is) c.loop-part.invariant c.in_ok-push_parts.ensures
