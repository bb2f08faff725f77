use Rattle.std.proofs.Common.{◌≡◌, ◌++◌, drop, map}
use Rattle.std.specs.List.{flat_map}
use Rattle.draw_diff.specs.Ways.{alone_state}
use Rattle.draw_diff.proofs.alone.push_alone_states.Given as goal

abbrev pub invariant-loop-state : goal.invariant-loop-state
invariant-loop-state l =
    l.text.items ++ flat_map (alone_state l.sign l.draft l.process) (drop l.state-index l.states) ≡ l.initial.text.items ++ flat_map (alone_state l.sign l.draft l.process) l.states
