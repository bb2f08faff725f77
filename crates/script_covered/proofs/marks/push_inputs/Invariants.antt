-- The marks pushed so far, and those still to push.
use Rattle.std.proofs.Common.{◌≡◌, ◌++◌, drop, map}
use Rattle.std.specs.List.{flat_map}
use Rattle.sdl_ast.specs.Views.{input_of}
use Rattle.script_covered.specs.Lcov.{input_marks}
use Rattle.script_covered.proofs.marks.push_inputs.Given as goal

abbrev pub invariant-loop-part : goal.invariant-loop-part
invariant-loop-part l =
    l.marks.items ++ flat_map input_marks (map (λ i. input_of i.now) (drop l.part-index l.parts)) ≡ l.initial.marks.items ++ flat_map input_marks (map (λ i. input_of i.now) l.parts)
