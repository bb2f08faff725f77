-- The links of a set; a call changes one of them.
use Rattle.std.specs.Prelude.{ℕ, List, Option, Some, None, slice_get, slice_set}
use Rattle.link_group.specs.declared.link.Link.{Link}

abbrev pub set_at : List Link → ℕ → (Link → Link) → Option Link → List Link
set_at ks n f None = ks
set_at ks n f (Some k) = slice_set ks n (f k)

-- the links, with the one at a place changed, if it exists
unfoldable pub change : List Link → ℕ → (Link → Link) → List Link
change ks n f = set_at ks n f (slice_get ks n)

-- the answer of a link, or another one if there is no such link
abbrev pub fault_at : {E : Type 0} → E → (Link → Option E) → Option Link → Option E
fault_at none f None = Some none
fault_at none f (Some k) = f k

-- a value read from a link, if it exists
abbrev pub read_at : {A : Type 0} → (Link → A) → Option Link → Option A
read_at f None = None
read_at f (Some k) = Some (f k)
