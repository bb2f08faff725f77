use Rattle.std.proofs.Common.{◌≡◌, ◌≤◌, ◌*◌, take}
use Rattle.actor_machine.specs.NameLaws.{instances_in}
use Rattle.actor_machine.proofs.number.first_of.Given as goal

abbrev pub invariant-loop-number : goal.invariant-loop-number
invariant-loop-number l = (l.count ≡ instances_in (take l.number l.set.processes)) × (l.count ≤ 8 * l.number)
