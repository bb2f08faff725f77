-- The terminals opened so far.
use Rattle.script_ends.proofs.Openings.{AreSoFar}
use Rattle.script_ends.proofs.opening.terminals.Given as goal

abbrev pub invariant-loop-made : goal.invariant-loop-made
invariant-loop-made l = AreSoFar l.set l.limits l.head.mode l.made l.terminals.items
