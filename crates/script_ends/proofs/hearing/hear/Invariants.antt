-- The octets heard so far, before the loop goes on.
use Rattle.std.proofs.Common.{◌-◌, length}
use Rattle.link_term.specs.Term.{Term}
use Rattle.script_ends.proofs.TermAnswers.{Hearing}
use Rattle.script_ends.proofs.hearing.hear.Given as goal

abbrev pub invariant-loop-from : goal.invariant-loop-from
invariant-loop-from l = (t : Term) → Hearing t l.initial.terminal l.octets l.initial.from → Hearing t l.terminal l.octets l.from

abbrev pub decreases-loop-from : goal.decreases-loop-from
decreases-loop-from l = length l.octets - l.from
