use Rattle.std.proofs.Common.{take}
use Rattle.std.specs.List.{flat_map}
use Rattle.sdl_sound.specs.Sorts.{wrong_answer}
use Rattle.sdl_tables.specs.Names.{variables_of}
use Rattle.sdl_tables.specs.Scopes.{Marks}
use Rattle.sdl_ast.specs.Views.{process_of, tree_of}
use Rattle.sdl_scopes.proofs.values.wrong_in_ranges.Given as goal

abbrev pub invariant-loop-range : goal.invariant-loop-range
invariant-loop-range l =
    Marks l.place (flat_map (wrong_answer (variables_of (process_of l.process)) (tree_of l.question)) (take l.range-index l.ranges))
