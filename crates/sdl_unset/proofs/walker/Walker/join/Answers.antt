use Rattle.std.proofs.Common.{◌≡◌, ◌&&◌, ◌||◌, ℕ, List, length, subst}
use Rattle.sdl_unset.specs.Graph.{has}
use Rattle.sdl_unset.specs.Flows.{mask_at}
use Rattle.sdl_unset.proofs.Walkers.{joined}
use Rattle.sdl_unset.proofs.walker.Walker.join.Goals as goal

pub returns : goal.returns
returns c =
    let w = c.args.self.now in
    let bits = subst (λ (others : List ℕ). length others ≡ length w.enters.items → (v q : ℕ)
    → has (mask_at c.add_masks.new.masks.items q) v ≡ (has (mask_at w.enters.items q) v || (has w.leaves v && has (mask_at others q) v)))
    c.deref.ensures.value c.add_masks.ensures.bits in
    λ p g told. joined p g w c.args.other.now c.add_masks.new.masks _ c.add_masks.ensures.count bits told
