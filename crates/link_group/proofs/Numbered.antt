-- A call of the link with a number, in the list of all.
use Rattle.std.proofs.Common.{◌≡◌, ℕ, ◌<◌, ◌≤◌, zero, suc, List, [], ◌∷◌, Some, length, get_or, slice_set, refl, sym, ap, ◌∙◌, arith, length-set}
use Rattle.std.specs.Prelude.{slice_get}
use Rattle.link_group.specs.declared.link.Link.{Link}
use Rattle.link_group.specs.Doing.{AtLink}

pub there-is : (ks : List Link) (l : ℕ) (d : Link) → l < length ks → slice_get ks l ≡ Some (get_or ks l d)
there-is [] l d h = absurd (omega (arith, h))
there-is (k ∷ ks) zero d h = refl
there-is (k ∷ ks) (suc l) d h = there-is ks l d (omega (arith, h))

-- the link at a place of a vector
pub here : (ks : List Link) (l : ℕ) (was : Link) → l < length ks → was ≡ get_or ks l was → slice_get ks l ≡ Some was
here ks l was h is = there-is ks l was h ∙ ap Some (sym is)

abbrev pub at_link : (did : Link → Link → Type 0) (l : ℕ) (ks : List Link) (was k : Link) → slice_get ks l ≡ Some was → did was k → AtLink did l ks (slice_set ks l k)
at_link did l ks was k e so = record { before = was; there = e; after = k; links = refl; was = so }

pub set_same : (ks : List Link) (l : ℕ) (k : Link) → slice_get ks l ≡ Some k → slice_set ks l k ≡ ks
set_same [] l k e = refl
set_same (x ∷ ks) zero k e = let same : x ≡ k = cc in ap (λ (y : Link). y ∷ ks) (sym same)
set_same (x ∷ ks) (suc l) k e = ap (λ (ys : List Link). x ∷ ys) (set_same ks l k e)

pub few_set : (most : ℕ) (ks : List Link) (l : ℕ) (k : Link) → length ks ≤ most → length (slice_set ks l k) ≤ most
few_set most ks l k h = let size = length-set ks l k in omega (arith, size, h)
