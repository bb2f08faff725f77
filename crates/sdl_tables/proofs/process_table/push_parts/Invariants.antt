use Rattle.std.proofs.Common.{◌≡◌, map, ◌++◌, take}
use Rattle.std.specs.List.{flat_map}
use Rattle.sdl_ast.specs.Views.{clause_of, input_of}
use Rattle.sdl_tables.specs.Names.{clause_parts}
use Rattle.sdl_tables.proofs.process_table.push_parts.Given as goal

abbrev pub invariant-loop-clause : goal.invariant-loop-clause
invariant-loop-clause l =
    map (λ i. input_of i.now) l.parts.items ≡ map (λ i. input_of i.now) l.initial.parts.items ++ flat_map clause_parts (map clause_of (take l.clause-index l.clause-items))
