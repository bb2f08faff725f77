-- Marks of the numbers that are kept.
use Rattle.std.proofs.Common.{◌≡◌, ℕ, zero, suc, ◌+◌, ◌<◌, inl, inr, Bool, true, false, cond, ◌||◌, List, [], ◌∷◌, ◌++◌, length, Some, refl, sym, ap, ◌∙◌, subst, arith}
use Rattle.std.specs.Prelude.{slice_get, slice_set, nat_eq}
use Rattle.std.proofs.lemmas.Bool.{cases_eq, eq-eqb, ne_eqb as differs}
use Rattle.std.proofs.lemmas.List.{length-set}
use Rattle.std.proofs.lemmas.List.Folds.{list_any-append}
use Rattle.std.proofs.Math.Bool.{or-true, or-false}
use Rattle.sdl_meaning.specs.Code.{add_number}
use Rattle.sdl_emit.specs.Marks.{has, HaveMarks}

set_here : (ms : List Bool) (n : ℕ) → n < length ms → slice_get (slice_set ms n true) n ≡ Some true
set_here [] n lt = absurd (omega (arith, lt))
set_here (m ∷ ms) zero lt = refl
set_here (m ∷ ms) (suc n) lt = set_here ms n (omega (arith, lt))

set_apart : (ms : List Bool) (n k : ℕ) → (n ≡ k → ⊥) → slice_get (slice_set ms n true) k ≡ slice_get ms k
set_apart [] n k h = refl
set_apart (m ∷ ms) zero zero h = absurd (h refl)
set_apart (m ∷ ms) zero (suc k) h = refl
set_apart (m ∷ ms) (suc n) zero h = refl
set_apart (m ∷ ms) (suc n) (suc k) h = set_apart ms n k (λ f. h (ap suc f))

has_last : (ns : List ℕ) (n : ℕ) → has (ns ++ n ∷ []) n ≡ true
has_last ns n =
    list_any-append (λ m. nat_eq m n) ns (n ∷ []) ∙ ap (λ b. has ns n || (b || false)) (eq-eqb n n refl) ∙ or-true (has ns n)

has_other : (ns : List ℕ) (n k : ℕ) → (n ≡ k → ⊥) → has (ns ++ n ∷ []) k ≡ has ns k
has_other ns n k other =
    list_any-append (λ m. nat_eq m k) ns (n ∷ []) ∙ ap (λ b. has ns k || (b || false)) (differs n k other) ∙ or-false (has ns k)

pub added_old : (ns : List ℕ) (n : ℕ) → has ns n ≡ true → ns ≡ add_number ns n
added_old ns n there = sym (ap (λ b. cond b ns (ns ++ n ∷ [])) there)

pub added_new : (ns : List ℕ) (n : ℕ) → has ns n ≡ false → ns ++ n ∷ [] ≡ add_number ns n
added_new ns n free = sym (ap (λ b. cond b ns (ns ++ n ∷ [])) free)

pub mark_tells : (size : ℕ) (ns : List ℕ) (marks : List Bool) (n : ℕ) (b : Bool) → HaveMarks size ns marks → n < length marks → slice_get marks n ≡ Some b → has ns n ≡ b
mark_tells size ns marks n b are lt at = let e : Some (has ns n) ≡ Some b = sym (are.each n lt) ∙ at in cc

pub marked_more : (size : ℕ) (ns : List ℕ) (marks : List Bool) (n : ℕ) → HaveMarks size ns marks → n < length marks → HaveMarks size (ns ++ n ∷ []) (slice_set marks n true)
marked_more size ns marks n are lt = record {
  count = length-set marks n true ∙ are.count;
  each = λ k below. elim (cases_eq n k) [
    | inl e ↦
        subst (λ k. slice_get (slice_set marks n true) k ≡ Some (has (ns ++ n ∷ []) k)) e
        (set_here marks n lt ∙ ap Some (sym (has_last ns n)))
    | inr other ↦
        set_apart marks n k other ∙ are.each k (omega (arith, below, length-set marks n true)) ∙ ap Some (sym (has_other ns n k other))
  ];
}
