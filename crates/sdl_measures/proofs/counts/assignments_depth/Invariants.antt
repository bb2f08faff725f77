use Rattle.std.proofs.Common.{◌≡◌, map, take, min}
use Rattle.sdl_ast.specs.Views.{assignment_of}
use Rattle.sdl_sound.specs.Longest.{assignments_depth}
use Rattle.sdl_measures.proofs.counts.assignments_depth.Given as goal

abbrev pub invariant-loop-assignment : goal.invariant-loop-assignment
invariant-loop-assignment l =
    l.most ≡ min (assignments_depth (map assignment_of (take l.assignment-index l.assignments))) 4294967295
