-- Marks of nodes: how many nodes are new, and that different marks exclude each other.
use Rattle.std.proofs.Common.{◌≡◌, ℕ, zero, suc, false, List, [], ◌∷◌, refl, ap, sym, ◌∙◌, Option, Some, None}
use Rattle.std.specs.Prelude.{slice_get, slice_set}
use Rattle.sdl_measures.specs.Searched.{is_new, unseen}
use Rattle.sdl_measures.specs.declared.graph.Mark.{Mark}
use Rattle.sdl_measures.specs.declared.graph.Mark.TheVariants.{New, Open, Done}

-- ---- counts

pub unseen_less : (marks : List Mark) (k : ℕ) (m : Mark) → slice_get marks k ≡ Some New → is_new m ≡ false → suc (unseen (slice_set marks k m)) ≡ unseen marks
unfolding unseen
unseen_less [] k m e h = let bad : None ≡ Some New = e in absurd (cc)
unseen_less (New ∷ marks) zero New e h = absurd (cc)
unseen_less (New ∷ marks) zero (Open d) e h = refl
unseen_less (New ∷ marks) zero (Done i) e h = refl
unseen_less (Open d ∷ marks) zero m e h = let bad : Some (Open d) ≡ Some New = e in absurd (cc)
unseen_less (Done i ∷ marks) zero m e h = let bad : Some (Done i) ≡ Some New = e in absurd (cc)
unseen_less (New ∷ marks) (suc k) m e h = ap suc (unseen_less marks k m e h)
unseen_less (Open d ∷ marks) (suc k) m e h = unseen_less marks k m e h
unseen_less (Done i ∷ marks) (suc k) m e h = unseen_less marks k m e h

pub unseen_same : (marks : List Mark) (k d i : ℕ) → slice_get marks k ≡ Some (Open d) → unseen (slice_set marks k (Done i)) ≡ unseen marks
unfolding unseen
unseen_same [] k d i e = refl
unseen_same (New ∷ marks) zero d i e = let bad : Some New ≡ Some (Open d) = e in absurd (cc)
unseen_same (Open d' ∷ marks) zero d i e = refl
unseen_same (Done j ∷ marks) zero d i e = refl
unseen_same (New ∷ marks) (suc k) d i e = ap suc (unseen_same marks k d i e)
unseen_same (Open d' ∷ marks) (suc k) d i e = unseen_same marks k d i e
unseen_same (Done j ∷ marks) (suc k) d i e = unseen_same marks k d i e

pub unseen_none : (marks : List Mark) → ((n : ℕ) → slice_get marks n ≡ Some New → ⊥) → unseen marks ≡ 0
unfolding unseen
unseen_none [] h = refl
unseen_none (New ∷ marks) h = absurd (h 0 refl)
unseen_none (Open d ∷ marks) h = unseen_none marks (λ n. h (suc n))
unseen_none (Done i ∷ marks) h = unseen_none marks (λ n. h (suc n))

-- ---- different marks

pub open_new : (o : Option Mark) (d : ℕ) → o ≡ Some (Open d) → o ≡ Some New → ⊥
open_new o d a b = let bad : Some (Open d) ≡ Some New = sym a ∙ b in absurd (cc)

pub done_new : (o : Option Mark) (i : ℕ) → o ≡ Some (Done i) → o ≡ Some New → ⊥
done_new o i a b = let bad : Some (Done i) ≡ Some New = sym a ∙ b in absurd (cc)

pub open_done : (o : Option Mark) (d i : ℕ) → o ≡ Some (Open d) → o ≡ Some (Done i) → ⊥
open_done o d i a b = let bad : Some (Open d) ≡ Some (Done i) = sym a ∙ b in absurd (cc)

pub open_open : (o : Option Mark) (d i : ℕ) → o ≡ Some (Open d) → o ≡ Some (Open i) → d ≡ i
open_open o d i a b = let e : Some (Open d) ≡ Some (Open i) = sym a ∙ b in cc

pub done_done : (o : Option Mark) (d i : ℕ) → o ≡ Some (Done d) → o ≡ Some (Done i) → d ≡ i
done_done o d i a b = let e : Some (Done d) ≡ Some (Done i) = sym a ∙ b in cc
