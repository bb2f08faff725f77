-- The repetitions so far.
use Rattle.script_ends.specs.TermAnswers.{TakesTimes}
use Rattle.script_ends.proofs.hearing.take_times.Given as goal

abbrev pub invariant-loop-taken : goal.invariant-loop-taken
invariant-loop-taken l = TakesTimes l.keeps l.octets l.taken l.initial.terminal l.terminal
