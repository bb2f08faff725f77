use Rattle.std.proofs.Common.{take}
use Rattle.std.specs.List.{flat_map}
use Rattle.std.specs.Prelude.{zip}
use Rattle.sdl_sound.specs.Sorts.{wrong_place}
use Rattle.sdl_tables.specs.Names.{variables_of}
use Rattle.sdl_tables.specs.Scopes.{Marks}
use Rattle.sdl_ast.specs.Views.{process_of}
use Rattle.sdl_scopes.proofs.values.wrong_places.Given as goal

abbrev pub invariant-loop-number : goal.invariant-loop-number
invariant-loop-number l =
    Marks l.found (flat_map (wrong_place (variables_of (process_of l.process))) (zip l.sorts (take l.number l.places)))
