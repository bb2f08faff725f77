use Rattle.std.proofs.Common.{take, map}
use Rattle.sdl_ast.specs.Views.{process_of}
use Rattle.sdl_measures.specs.Measures.{AllMeasures}
use Rattle.sdl_measures.proofs.measures.measure_all.Given as goal

abbrev pub invariant-loop-place : goal.invariant-loop-place
invariant-loop-place l = AllMeasures (map process_of (take l.place l.process-items)) l.rows.items
