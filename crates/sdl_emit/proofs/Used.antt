-- The table of uses: one more slot, one more name, and the name that is looked up.
use Rattle.std.proofs.Common.{◌≡◌, ℕ, zero, suc, List, [], ◌∷◌, ◌++◌, Option, Some, None, true, subst}
use Rattle.std.specs.Prelude.{slice_get, slice_set, bytes_eq}
use Rattle.std.proofs.lemmas.Slice.Eq.{bytes_eq-Decides}
use Rattle.sdl_meaning.specs.Outcomes.{Scope}
use Rattle.sdl_emit.specs.declared.uses.Use.{Use}
use Rattle.sdl_emit.specs.Uses.{IsUse, AreUses}

pub one_slot : (c : Scope) (us : List (Option Use)) → AreUses c us → AreUses c (us ++ None ∷ [])
one_slot c us h = λ k u e. at us k u h e
  where
    at : (us : List (Option Use)) (k : ℕ) (u : Use) → AreUses c us → slice_get (us ++ None ∷ []) k ≡ Some (Some u) → IsUse c u.id.name u.meant
    at [] zero u h e = absurd (let k : ⊥ = cc in k)
    at [] (suc k) u h e = absurd (let k : ⊥ = cc in k)
    at (x ∷ us) zero u h e = h zero u e
    at (x ∷ us) (suc k) u h e = at us k u (λ j v f. h (suc j) v f) e

pub one_use : (c : Scope) (us : List (Option Use)) (n : ℕ) (u : Use) → AreUses c us → IsUse c u.id.name u.meant → AreUses c (slice_set us n (Some u))
one_use c us n u h known = λ k v e. at us n k v h e
  where
    at : (us : List (Option Use)) (n k : ℕ) (v : Use) → AreUses c us → slice_get (slice_set us n (Some u)) k ≡ Some (Some v) → IsUse c v.id.name v.meant
    at [] n k v h e = h k v e
    at (x ∷ us) zero zero v h e = let is : u ≡ v = cc in subst (λ (v : Use). IsUse c v.id.name v.meant) is known
    at (x ∷ us) zero (suc k) v h e = h (suc k) v e
    at (x ∷ us) (suc n) zero v h e = h zero v e
    at (x ∷ us) (suc n) (suc k) v h e = at us n k v (λ j w f. h (suc j) w f) e

pub asked_for : (c : Scope) (us : List (Option Use)) (k : ℕ) (u : Use) (name : List ℕ) → AreUses c us → slice_get us k ≡ Some (Some u) → bytes_eq u.id.name name ≡ true → IsUse c name u.meant
asked_for c us k u name h at same = subst (λ n. IsUse c n u.meant) ((bytes_eq-Decides u.id.name name).0 same) (h k u at)
