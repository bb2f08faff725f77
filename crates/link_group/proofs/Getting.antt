-- The item at a place of a list after another was set, and a set's links after one changed.
use Rattle.std.proofs.Common.{◌≡◌, ℕ, ◌<◌, zero, suc, List, [], ◌∷◌, Option, Some, None, length, slice_set, refl, ap, ◌∙◌, arith, inl, inr}
use Rattle.std.specs.Prelude.{slice_get, option_map, map}
use Rattle.std.proofs.lemmas.Option.{slice_get-map}
use Rattle.plain_laws.proofs.Options.{none_some}
use Rattle.link_group.specs.declared.link.Link.{Link}
use Rattle.group_changeover.proofs.Equal.{Same, same}
use Rattle.link_group.specs.OneLink.{messages}
use Rattle.link_group.specs.Links.{set_at, change}
use Rattle.link_group.specs.Laws.{held_by}

pub set_other : {X : Type 0} (xs : List X) (l j : ℕ) (x : X) → (j ≡ l → ⊥) → slice_get (slice_set xs l x) j ≡ slice_get xs j
set_other [] l j x h = refl
set_other (y ∷ xs) zero zero x h = absurd (h refl)
set_other (y ∷ xs) zero (suc j) x h = refl
set_other (y ∷ xs) (suc l) zero x h = refl
set_other (y ∷ xs) (suc l) (suc j) x h = set_other xs l j x (λ e. h (ap suc e))

pub set_here : {X : Type 0} (xs : List X) (l : ℕ) (x : X) → l < length xs → slice_get (slice_set xs l x) l ≡ Some x
set_here [] l x h = absurd (omega (arith, h))
set_here (y ∷ xs) zero x h = refl
set_here (y ∷ xs) (suc l) x h = set_here xs l x (omega (arith, h))

pub set_there : {X : Type 0} (xs : List X) (l : ℕ) (x y : X) → slice_get xs l ≡ Some y → slice_get (slice_set xs l x) l ≡ Some x
set_there [] l x y e = absurd (none_some e)
set_there (z ∷ xs) zero x y e = refl
set_there (z ∷ xs) (suc l) x y e = set_there xs l x y e

change_by : (f : Link → Link) (ks : List Link) (l : ℕ) (o : Option Link) → slice_get ks l ≡ o → slice_get (set_at ks l f o) l ≡ option_map f o
change_by f ks l None e = e
change_by f ks l (Some k) e = set_there ks l (f k) k e

pub change_here : (f : Link → Link) (ks : List Link) (l : ℕ) (o : Option Link) → slice_get ks l ≡ o → slice_get (change ks l f) l ≡ option_map f o
unfolding change
change_here f ks l o e = ap (λ (x : Option Link). slice_get (set_at ks l f x) l) e ∙ change_by f ks l o e

other_by : (f : Link → Link) (ks : List Link) (l j : ℕ) (o : Option Link) → (j ≡ l → ⊥) → slice_get (set_at ks l f o) j ≡ slice_get ks j
other_by f ks l j None h = refl
other_by f ks l j (Some k) h = set_other ks l j (f k) h

pub change_other : (f : Link → Link) (ks : List Link) (l j : ℕ) → (j ≡ l → ⊥) → slice_get (change ks l f) j ≡ slice_get ks j
unfolding change
change_other f ks l j h = other_by f ks l j (slice_get ks l) h

-- ---- the messages that links hold

held_same : (f : Link → Link) (o : Option Link) → ((k : Link) → o ≡ Some k → messages (f k) ≡ messages k) → held_by (option_map f o) ≡ held_by o
held_same f None h = refl
held_same f (Some k) h = h k refl

held_change : (f : Link → Link) (ks : List Link) (l j : ℕ) → Same j l → ((k : Link) → slice_get ks l ≡ Some k → messages (f k) ≡ messages k) → held_by (slice_get (change ks l f) j) ≡ held_by (slice_get ks j)
held_change f ks l j (inl e) h =
    rw e (ap held_by (change_here f ks l (slice_get ks l) refl) ∙ held_same f (slice_get ks l) h)
held_change f ks l j (inr other) h = ap held_by (change_other f ks l j other)

-- a change of a link that leaves its messages
pub held_changed : (f : Link → Link) (ks : List Link) (l j : ℕ) → ((k : Link) → slice_get ks l ≡ Some k → messages (f k) ≡ messages k) → held_by (slice_get (change ks l f) j) ≡ held_by (slice_get ks j)
held_changed f ks l j h = held_change f ks l j (same j l) h

pub held_mapped : (f : Link → Link) (ks : List Link) (j : ℕ) → ((k : Link) → messages (f k) ≡ messages k) → held_by (slice_get (map f ks) j) ≡ held_by (slice_get ks j)
held_mapped f ks j h = ap held_by (slice_get-map f ks j) ∙ held_same f (slice_get ks j) (λ k e. h k)
