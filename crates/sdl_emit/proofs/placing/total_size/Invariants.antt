use Rattle.std.proofs.Common.{◌≡◌, ◌+◌, drop}
use Rattle.std.specs.List.{sum_by}
use Rattle.sdl_emit.specs.Scopes.{scope_in}
use Rattle.sdl_meaning.specs.Code.{size_at}
use Rattle.sdl_emit.proofs.placing.total_size.Given as goal

abbrev pub invariant-loop-number : goal.invariant-loop-number
invariant-loop-number l = l.total + sum_by (size_at (scope_in l.names)) (drop l.number-index l.placed) ≡ sum_by (size_at (scope_in l.names)) l.placed
