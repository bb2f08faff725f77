-- The octets heard so far.
use Rattle.std.proofs.Common.{◌≤◌, ◌-◌, length, drop}
use Rattle.link_term.specs.Term.{Term}
use Rattle.script_ends.specs.TermAnswers.{Listens}
use Rattle.script_ends.proofs.hearing.listen.Given as goal

abbrev pub invariant-loop-from : goal.invariant-loop-from
invariant-loop-from l = record {
  within : l.from ≤ length l.octets;
  listens : (u : Term) → Listens l.terminal (drop l.from l.octets) u → Listens l.initial.terminal l.octets u;
}

abbrev pub decreases-loop-from : goal.decreases-loop-from
decreases-loop-from l = length l.octets - l.from
