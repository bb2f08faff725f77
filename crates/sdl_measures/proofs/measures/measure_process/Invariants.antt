use Rattle.std.proofs.Common.{◌≡◌, length}
use Rattle.sdl_ast.specs.Views.{process_of}
use Rattle.sdl_measures.proofs.Joined.{MeasuredTo}
use Rattle.sdl_measures.proofs.measures.measure_process.Given as goal

abbrev pub invariant-loop-number : goal.invariant-loop-number
invariant-loop-number l = record {
  count : length l.measures.items ≡ length (process_of l.process).connections;
  done : MeasuredTo (process_of l.process) l.order l.measures.items l.number-index;
}
