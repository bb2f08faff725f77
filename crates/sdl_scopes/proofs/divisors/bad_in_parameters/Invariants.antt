use Rattle.std.proofs.Common.{map, take}
use Rattle.std.specs.List.{flat_map}
use Rattle.sdl_sound.specs.Divisors.{bad_divisors_in}
use Rattle.sdl_tables.specs.Scopes.{Marks}
use Rattle.sdl_ast.specs.Views.{tree_of}
use Rattle.sdl_scopes.proofs.divisors.bad_in_parameters.Given as goal

abbrev pub invariant-loop-parameter : goal.invariant-loop-parameter
invariant-loop-parameter l =
    Marks l.place (flat_map bad_divisors_in (map tree_of (take l.parameter-index l.parameters)))
