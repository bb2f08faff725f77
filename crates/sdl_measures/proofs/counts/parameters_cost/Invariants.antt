use Rattle.std.proofs.Common.{◌≡◌, map, take, min}
use Rattle.std.specs.Prelude.{sum_by}
use Rattle.sdl_ast.specs.Views.{tree_of}
use Rattle.sdl_sound.specs.Longest.{cost_of}
use Rattle.sdl_measures.proofs.counts.parameters_cost.Given as goal

abbrev pub invariant-loop-parameter : goal.invariant-loop-parameter
invariant-loop-parameter l =
    l.total ≡ min (sum_by cost_of (map tree_of (take l.parameter-index l.parameters))) 4294967295
