use Rattle.std.proofs.Common.{take, ◌≡◌}
use Rattle.sdl_warnings.specs.Marked.{is_marked}
use Rattle.std.specs.List.{list_any}
use Rattle.sdl_warnings.proofs.reaching.any_marked.Given as goal

abbrev pub invariant-loop-number : goal.invariant-loop-number
invariant-loop-number l =
    l.any ≡ list_any (is_marked l.marks) (take l.number-index l.numbers)
