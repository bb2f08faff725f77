use Rattle.std.proofs.Common.{◌≡◌, drop, ◌||◌}
use Rattle.std.specs.List.{list_any, AllByRecursion}
use Rattle.input_port.specs.Saves.{saves}
use Rattle.input_port.specs.declared.queue.Item.{Item}
use Rattle.turn_check.specs.Answered.{same_trigger}
use Rattle.actor_machine.specs.Looking.{trigger_of}
use Rattle.actor_state.specs.Saving.{IsSmall}
use Rattle.actor_state.proofs.look.saved_of.Given as goal

abbrev pub invariant-loop-trigger : goal.invariant-loop-trigger
invariant-loop-trigger l = ((x : Item) → (list_any (same_trigger (trigger_of x)) (drop l.trigger-index l.triggers) || saves l.saved x) ≡ list_any (same_trigger (trigger_of x)) l.triggers)
    × AllByRecursion IsSmall (drop l.trigger-index l.triggers)
