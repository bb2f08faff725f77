use Rattle.std.proofs.Common.{map, take, ◌≡◌}
use Rattle.sdl_warnings.specs.Standing.{part_of}
use Rattle.sdl_warnings.specs.Warned.{sets_timer}
use Rattle.std.specs.List.{list_any}
use Rattle.sdl_warnings.proofs.timers.sets_in_parts.Given as goal

abbrev pub invariant-loop-part : goal.invariant-loop-part
invariant-loop-part l =
    l.any ≡ list_any (sets_timer l.timer) (map part_of (take l.part-index l.parts))
