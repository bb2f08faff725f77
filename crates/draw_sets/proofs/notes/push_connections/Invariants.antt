use Rattle.draw_sets.specs.Noting.{AreAdded}
use Rattle.draw_sets.proofs.notes.push_connections.Given as goal

abbrev pub invariant-loop-index : goal.invariant-loop-index
invariant-loop-index l = AreAdded l.initial.text.items l.text.items
