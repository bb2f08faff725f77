-- Values that may be missing, and the result of a comparison.
use Rattle.std.proofs.Common.{◌≡◌, Bool, true, false, Option, Some, None, refl, if◌then◌else◌, Ordering}
use Rattle.std.specs.declared.cmp.Ordering.TheVariants.{Equal}
use Rattle.std.specs.Ordering.{is_eq}
use Rattle.std.specs.Cmp.{Equal-is}
use Rattle.std.specs.Option.{option_and_then}

pub none_some : {A : Type 0} {x : A} → None ≡ Some x → ⊥
none_some e = cc

pub some_none : {A : Type 0} {x : A} → Some x ≡ None → ⊥
some_none e = cc

pub some_of : {A B : Type 0} (f : A → Option B) (o : Option A) (y : B) → option_and_then f o ≡ Some y → (x : A) × (o ≡ Some x) × (f x ≡ Some y)
some_of f None y e = absurd (none_some e)
some_of f (Some x) y e = (x, refl, e)

-- If a test and what follows it refuse nothing, the test is false and what follows refuses nothing.
pub row_passes : {A : Type 0} (b : Bool) (x : A) (o : Option A) → (if b then Some x else o) ≡ None → (b ≡ false) × (o ≡ None)
row_passes true x o h = absurd (some_none h)
row_passes false x o h = (refl, h)

pub is_Equal : (r : Ordering) → is_eq r ≡ true → r ≡ Equal
is_Equal r e = (Equal-is r).0 e
