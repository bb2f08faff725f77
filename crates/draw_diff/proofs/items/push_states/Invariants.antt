use Rattle.std.proofs.Common.{◌≡◌, ◌++◌, drop, map}
use Rattle.std.specs.List.{flat_map}
use Rattle.draw_diff.specs.Items.{item_of, state_items}
use Rattle.draw_diff.proofs.items.push_states.Given as goal

abbrev pub invariant-loop-state : goal.invariant-loop-state
invariant-loop-state l =
    map item_of l.items.items ++ flat_map (state_items l.draft l.process) (drop l.state-index l.states) ≡ map item_of l.initial.items.items ++ flat_map (state_items l.draft l.process) l.states
