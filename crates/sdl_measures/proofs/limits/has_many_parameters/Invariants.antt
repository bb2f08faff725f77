use Rattle.std.proofs.Common.{◌≡◌, map, take, nat_lt, length}
use Rattle.std.specs.List.{list_any}
use Rattle.sdl_ast.specs.Views.{signal_of}
use Rattle.sdl_measures.proofs.limits.has_many_parameters.Given as goal

abbrev pub invariant-loop-row : goal.invariant-loop-row
invariant-loop-row l =
    l.any ≡ list_any (λ s. nat_lt 4 (length s.parameters)) (map (λ s. signal_of s.now) (take l.row-index l.rows))
