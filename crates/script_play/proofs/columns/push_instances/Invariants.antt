-- The columns of the instances so far are written.
use Rattle.std.proofs.Common.{take}
use Rattle.turn_check.specs.Named.{instances_at}
use Rattle.actor_machine.specs.Names.{instances_from}
use Rattle.script_play.specs.Charted.{HasMore}
use Rattle.script_play.proofs.Charting.{chosen}
use Rattle.script_play.proofs.columns.push_instances.Given as goal

abbrev pub invariant-loop-number : goal.invariant-loop-number
invariant-loop-number l =
    HasMore (chosen l.set l.actors (take l.number (instances_from l.process.0 1 (instances_at l.set l.process.0)))) l.initial.columns l.columns
