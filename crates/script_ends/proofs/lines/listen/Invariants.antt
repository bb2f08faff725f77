-- The octets heard so far.
use Rattle.std.proofs.Common.{◌<◌, ◌≤◌, ◌-◌, length, drop}
use Rattle.link_group.specs.Set.{LinkSet}
use Rattle.script_ends.specs.GroupAnswers.{Listens}
use Rattle.script_ends.proofs.lines.listen.Given as goal

abbrev pub invariant-loop-from : goal.invariant-loop-from
invariant-loop-from l = record {
  there : l.link < length l.group.links;
  within : l.from ≤ length l.octets;
  listens : (d : LinkSet) → Listens l.link l.group (drop l.from l.octets) d → Listens l.link l.initial.group l.octets d;
}

abbrev pub decreases-loop-from : goal.decreases-loop-from
decreases-loop-from l = length l.octets - l.from
