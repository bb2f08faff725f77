use Rattle.std.proofs.Common.{take}
use Rattle.sdl_measures.specs.Searched.{Finds}
use Rattle.sdl_measures.proofs.graph.see_all.Given as goal

abbrev pub invariant-loop-node : goal.invariant-loop-node
invariant-loop-node l = Finds (take l.node-index l.nodes) l.initial.marks.items l.initial.found.items l.marks.items l.found.items
