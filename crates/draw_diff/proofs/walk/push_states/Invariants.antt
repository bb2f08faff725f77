use Rattle.std.proofs.Common.{◌≡◌, ◌++◌, drop, map}
use Rattle.std.specs.List.{flat_map}
use Rattle.draw_diff.specs.Ways.{state_lines}
use Rattle.draw_diff.proofs.walk.push_states.Given as goal

abbrev pub invariant-loop-state : goal.invariant-loop-state
invariant-loop-state l =
    l.text.items ++ flat_map (λ q. state_lines l.side l.pair q l.others) (drop l.state-index l.states) ≡ l.initial.text.items ++ flat_map (λ q. state_lines l.side l.pair q l.others) l.states
