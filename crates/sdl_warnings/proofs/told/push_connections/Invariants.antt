use Rattle.std.proofs.Common.{map, take, ◌++◌, ◌≡◌}
use Rattle.sdl_ast.specs.Views.{connection_of}
use Rattle.sdl_sound.specs.Statements.{statements_of}
use Rattle.sdl_warnings.specs.Standing.{part_of}
use Rattle.std.specs.List.{flat_map}
use Rattle.sdl_warnings.proofs.told.push_connections.Given as goal

abbrev pub invariant-loop-connection : goal.invariant-loop-connection
invariant-loop-connection l =
    map part_of l.parts.items ≡ map part_of l.initial.parts.items ++ flat_map (λ c. statements_of c.text) (map connection_of (take l.connection-index l.connections))
