use Rattle.std.proofs.Common.{map, take, ◌++◌, ◌≡◌}
use Rattle.sdl_ast.specs.Views.{connection_of}
use Rattle.sdl_warnings.specs.Marked.{marked_only}
use Rattle.sdl_warnings.specs.Ways.{text_states}
use Rattle.std.specs.List.{flat_map}
use Rattle.sdl_warnings.proofs.exits.push_connections.Given as goal

abbrev pub invariant-loop-number : goal.invariant-loop-number
invariant-loop-number l =
    l.ids.items ≡ l.initial.ids.items ++ flat_map (λ c. text_states c.text) (marked_only l.marks (map connection_of (take l.number l.connections)))
