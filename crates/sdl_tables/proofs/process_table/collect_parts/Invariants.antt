use Rattle.std.proofs.Common.{◌≡◌, map, take}
use Rattle.std.specs.List.{flat_map}
use Rattle.sdl_ast.specs.Views.{state_of, input_of}
use Rattle.sdl_tables.specs.Names.{clause_parts}
use Rattle.sdl_tables.proofs.process_table.collect_parts.Given as goal

abbrev pub invariant-loop-part : goal.invariant-loop-part
invariant-loop-part l =
    map (λ i. input_of i.now) l.parts.items ≡ flat_map (λ part. flat_map clause_parts part.clauses) (map state_of (take l.part-index l.states))
