-- All items so far are saved.
use Rattle.std.proofs.Common.{◌≡◌, drop}
use Rattle.input_port.specs.Queue.{first_unsaved}
use Rattle.actor_machine.specs.Looking.{is_saved}
use Rattle.script_seen.proofs.events.first_item.Given as goal

abbrev pub invariant-loop-place : goal.invariant-loop-place
invariant-loop-place l =
    first_unsaved (is_saved l.set l.process.0 l.state.0) l.port.items ≡ first_unsaved (is_saved l.set l.process.0 l.state.0) (drop l.place l.port.items)
