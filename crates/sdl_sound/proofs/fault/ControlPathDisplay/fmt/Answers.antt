use Rattle.std.proofs.Common.{◌≡◌, ℕ, ◌+◌, ◌<◌, List, [], ◌∷◌, ◌++◌, length, take, ap, sym, ◌∙◌, rules}
use Rattle.std.proofs.lemmas.List.{take_more, flat_map_more}
use Rattle.std.proofs.Output.{has_written_append, has_written_of_eq}
use Rattle.std.specs.List.{flat_map}
use Rattle.sdl_sound.specs.Printed.{step_part}
use Rattle.sdl_sound.proofs.fault.ControlPathDisplay.fmt.Goals as goal
use lib.ListN.{get_or}

-- One more item.
more_parts : {X : Type 0} (f : X → List ℕ) (items : List X) (i : ℕ) (x : X) → i < length items → x ≡ get_or items i x
    → flat_map f (take i items) ++ f x ≡ flat_map f (take (i + 1) items)
more_parts f items i x within is =
    flat_map_more f [] (take i items) x
    ∙ ap (flat_map f) (ap (λ y. take i items ++ y ∷ []) is ∙ sym (take_more items i x within))

pub loop-step-preserved : goal.loop-step-preserved
loop-step-preserved g c =
    λ plain.
    let so_far = c.loop-step.invariant plain in
    let one = c.write.ensures.writes so_far.plain (search rules) in
    has_written_of_eq _ _ _ _ _ (more_parts step_part c.deref-step-items.result.now c.loop-step.step-index c.step-item.result (search rules) (search rules))
    (has_written_append _ _ _ _ _ _ so_far one)
