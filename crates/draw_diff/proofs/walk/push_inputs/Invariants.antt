use Rattle.std.proofs.Common.{◌≡◌, ◌++◌, drop, map}
use Rattle.std.specs.List.{flat_map}
use Rattle.draw_diff.specs.Ways.{input_lines}
use Rattle.draw_diff.proofs.walk.push_inputs.Given as goal

abbrev pub invariant-loop-input : goal.invariant-loop-input
invariant-loop-input l =
    l.text.items ++ flat_map (λ i. input_lines l.side l.pair l.state i l.others) (drop l.input-index l.inputs) ≡ l.initial.text.items ++ flat_map (λ i. input_lines l.side l.pair l.state i l.others) l.inputs
