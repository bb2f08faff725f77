use Rattle.std.proofs.Common.{map, take, ◌++◌, ◌≡◌}
use Rattle.sdl_warnings.specs.Standing.{part_of}
use Rattle.sdl_warnings.specs.Warned.{statement_warnings}
use Rattle.std.specs.List.{flat_map}
use Rattle.sdl_warnings.proofs.decisions.push_decisions.Given as goal

abbrev pub invariant-loop-part : goal.invariant-loop-part
invariant-loop-part l =
    l.found.items ≡ l.initial.found.items ++ flat_map statement_warnings (map part_of (take l.part-index l.parts))
