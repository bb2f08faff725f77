use Rattle.std.proofs.Common.{◌≡◌, ◌++◌, drop, map}
use Rattle.std.specs.List.{flat_map}
use Rattle.draw_diff.specs.Ways.{alone_input}
use Rattle.draw_diff.proofs.alone.push_alone_inputs.Given as goal

abbrev pub invariant-loop-input : goal.invariant-loop-input
invariant-loop-input l =
    l.text.items ++ flat_map (alone_input l.sign l.draft l.process l.state) (drop l.input-index l.inputs) ≡ l.initial.text.items ++ flat_map (alone_input l.sign l.draft l.process l.state) l.inputs
