use Rattle.std.proofs.Common.{◌≡◌, ◌++◌, map}
use Rattle.actor_machine.specs.Names.{instances_from}
use Rattle.actor_machine.specs.Kept.{opened_actor}
use Rattle.actor_state.proofs.Opened.{left_of}
use Rattle.actor_state.proofs.open.open_process.Given as goal

abbrev pub invariant-loop-done : goal.invariant-loop-done
invariant-loop-done l =
    l.actors.items ++ left_of l.port l.process l.number l.done
    ≡ l.initial.actors.items ++ map (opened_actor l.port l.process) (instances_from l.number 1 l.process.instances)
