-- The columns of the processes so far are written.
use Rattle.std.proofs.Common.{take}
use Rattle.actor_machine.specs.Names.{actors_of}
use Rattle.script_play.specs.Charted.{HasMore}
use Rattle.script_play.proofs.Charting.{chosen}
use Rattle.script_play.proofs.columns.push_columns.Given as goal

abbrev pub invariant-loop-process : goal.invariant-loop-process
invariant-loop-process l = HasMore (chosen l.set l.actors (actors_of (take l.process l.set.processes))) l.initial.columns l.columns
