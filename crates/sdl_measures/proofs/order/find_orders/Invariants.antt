use Rattle.std.proofs.Common.{take, map}
use Rattle.sdl_ast.specs.Views.{process_of}
use Rattle.sdl_measures.proofs.Returning.{SoFar}
use Rattle.sdl_measures.proofs.order.find_orders.Given as goal

abbrev pub invariant-loop-process : goal.invariant-loop-process
invariant-loop-process l = SoFar (map process_of (take l.process-index l.processes)) l.place l.orders.items
