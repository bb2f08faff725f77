use Rattle.std.proofs.Common.{map, take, ◌≡◌}
use Rattle.sdl_warnings.specs.Standing.{part_of}
use Rattle.sdl_warnings.specs.Warned.{sends}
use Rattle.std.specs.List.{list_any}
use Rattle.sdl_warnings.proofs.sendings.sends_in_parts.Given as goal

abbrev pub invariant-loop-part : goal.invariant-loop-part
invariant-loop-part l =
    l.any ≡ list_any (sends l.to l.signal) (map part_of (take l.part-index l.parts))
