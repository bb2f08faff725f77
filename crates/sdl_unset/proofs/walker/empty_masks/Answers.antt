use Rattle.std.proofs.Common.{◌≡◌, ℕ, ◌+◌, zero, suc, List, [], ◌∷◌, ◌++◌, length, length-append, refl, ap, ◌∙◌}
use Rattle.sdl_unset.specs.Flows.{mask_at}
use Rattle.sdl_unset.proofs.walker.empty_masks.Goals as goal

-- One more empty mask.
all_empty : (masks : List ℕ) → ((q : ℕ) → mask_at masks q ≡ 0) → (q : ℕ) → mask_at (masks ++ 0 ∷ []) q ≡ 0
all_empty [] h zero = refl
all_empty [] h (suc q) = refl
all_empty (m ∷ ms) h zero = h zero
all_empty (m ∷ ms) h (suc q) = all_empty ms (λ k. h (suc k)) q

pub loop-state-preserved : goal.loop-state-preserved
loop-state-preserved c = (
  ap length c.in_ok-push.ensures.items ∙ (length-append c.loop-state.masks.items (0 ∷ []) ∙ ap (λ n. n + 1) c.loop-state.invariant.0),
  λ q. ap (λ ms. mask_at ms q) c.in_ok-push.ensures.items ∙ all_empty c.loop-state.masks.items c.loop-state.invariant.1 q,
)
