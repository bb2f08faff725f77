use Rattle.std.proofs.Common.{map, take, ◌≡◌}
use Rattle.std.specs.List.{list_any}
use Rattle.sdl_warnings.specs.Standing.{part_of}
use Rattle.sdl_warnings.specs.Warned.{answers_name}
use Rattle.sdl_warnings.proofs.uses.names_in_answers.Given as goal

abbrev pub invariant-loop-part : goal.invariant-loop-part
invariant-loop-part l =
    l.any ≡ list_any (answers_name l.name) (map part_of (take l.part-index l.parts))
