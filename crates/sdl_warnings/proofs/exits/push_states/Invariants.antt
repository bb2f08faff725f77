use Rattle.std.proofs.Common.{map, take, ◌++◌, ◌≡◌}
use Rattle.sdl_warnings.specs.Standing.{part_of}
use Rattle.sdl_warnings.specs.Ways.{statement_states}
use Rattle.std.specs.List.{flat_map}
use Rattle.sdl_warnings.proofs.exits.push_states.Given as goal

abbrev pub invariant-loop-part : goal.invariant-loop-part
invariant-loop-part l =
    l.ids.items ≡ l.initial.ids.items ++ flat_map statement_states (map part_of (take l.part-index l.parts))
