use Rattle.std.proofs.Common.{◌≡◌, map, take, min}
use Rattle.sdl_ast.specs.Views.{tree_of}
use Rattle.sdl_sound.specs.Longest.{parameters_depth}
use Rattle.sdl_measures.proofs.counts.parameters_depth.Given as goal

abbrev pub invariant-loop-parameter : goal.invariant-loop-parameter
invariant-loop-parameter l =
    (l.waiting ≡ min l.parameter-index 4294967295)
    × (l.most ≡ min (parameters_depth 0 (map tree_of (take l.parameter-index l.parameters))) 4294967295)
