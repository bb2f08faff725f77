use Rattle.std.proofs.Common.{take, map}
use Rattle.sdl_ast.specs.Views.{process_of}
use Rattle.sdl_measures.specs.Rows.{AllPassed}
use Rattle.sdl_measures.proofs.limits.pass_processes.Given as goal

abbrev pub invariant-loop-place : goal.invariant-loop-place
invariant-loop-place l = AllPassed (map process_of (take l.place l.processes)) l.passed
