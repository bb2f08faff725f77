use Rattle.std.proofs.Common.{◌≡◌}
use Rattle.sdl_warnings.specs.Marked.{is_marked}
use Rattle.sdl_warnings.specs.Ways.{upto}
use Rattle.std.specs.Prelude.{filter}
use Rattle.sdl_warnings.proofs.ways.marked_numbers.Given as goal

abbrev pub invariant-loop-number : goal.invariant-loop-number
invariant-loop-number l =
    l.numbers.items ≡ filter (is_marked l.marks) (upto l.number)
