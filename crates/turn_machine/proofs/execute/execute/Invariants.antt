use Rattle.turn_machine.specs.Safety.{IsUnderWay}
use Rattle.turn_machine.proofs.execute.execute.Given as goal

abbrev pub invariant-loop-taken : goal.invariant-loop-taken
invariant-loop-taken l = IsUnderWay l.piece l.input l.fn.certificate l.taken l.place l.words l.machine.effects.items
