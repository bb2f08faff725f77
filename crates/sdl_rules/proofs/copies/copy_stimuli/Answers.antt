use Rattle.std.proofs.Common.{map, take_all, ap, ◌∙◌, List, Option}
use Rattle.sdl_ast.specs.declared.tree.Stimulus.{Stimulus}
use Rattle.sdl_ast.specs.Views.{stimulus_of}
use Rattle.sdl_ast.specs.declared.expression.Identifier.{Identifier}
use Rattle.sdl_ast.specs.Plain.{PlainStimulus}
use Rattle.sdl_rules.proofs.Copying.{one_more_same}
use Rattle.sdl_rules.proofs.copies.copy_stimuli.Goals as goal

pub loop-stimulus-preserved : goal.loop-stimulus-preserved
loop-stimulus-preserved c =
    let make : List (Option Identifier) → PlainStimulus = λ l. record { name = c.stimulus-item.result.name; places = l } in
    one_more_same stimulus_of c.args.given.now c.loop-stimulus.copies.items _ c.loop-stimulus.stimulus-index c.stimulus-item.result _ c.loop-stimulus-test.true c.stimulus-item.is
    c.loop-stimulus.invariant c.in_ok-push.ensures.items (ap make (c.in_ok-from_slice.ensures.items ∙ c.as_slice.ensures.value))

pub returns : goal.returns
returns c = c.loop-stimulus.invariant ∙ ap (λ (l : List Stimulus). map stimulus_of l) (take_all c.loop-stimulus.stimulus-index c.args.given.now c.loop-stimulus-test.false)
