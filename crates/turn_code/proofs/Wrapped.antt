-- Arithmetic wraps a number to 32 bits: the wrapped number differs by a multiple of 2^32, and is the only one.
use Rattle.std.proofs.Common.{◌≡◌, ℕ, ◌+◌, ◌-◌, ◌*◌, ◌/◌, ◌%◌, ◌<◌, ℤ, pos, negsuc, ◌+ℤ◌, ◌-ℤ◌, ◌*ℤ◌, refl, sym, ap, ◌∙◌, arith}
use Rattle.std.specs.Prelude.{FitsSigned, Bool, true, false, nat_lt}
use Rattle.std.specs.Int.{int_wrap, cast_signed, w32}
use Rattle.std.proofs.lemmas.Int.{ints, SFits-int_wrap}
use borrow.Author.Differences.{same_in, same_out, sum_is_lem, neg_is, product_is}
use Rattle.turn_code.specs.Values.{wrap, IsWrapped}

-- the signed value of the 32-bit number n, and the number of times that 2^32 must be added to it to give n
read : (n : ℕ) → n < 4294967296 → (j : ℕ) × (cast_signed w32 n +ℤ pos (j * 4294967296) ≡ pos n)
read n h = by (nat_lt n 2147483648) refl
  where
    by : (t : Bool) → nat_lt n 2147483648 ≡ t → (j : ℕ) × (cast_signed w32 n +ℤ pos (j * 4294967296) ≡ pos n)
    by true e = (0, rw e (ap pos (omega arith)))
    by false e = (1, rw e (omega (arith, same_in, sum_is_lem)))

turns_of : (z : ℤ) → (t : ℤ) × (z ≡ wrap z +ℤ t *ℤ pos 4294967296)
unfolding int_wrap
turns_of (pos a) =
    let r = read (a % 4294967296) (omega arith) in
    let e = r.1 in
    (pos (r.0 + a / 4294967296), omega (arith, same_in, same_out, sum_is_lem, e))
turns_of (negsuc a) =
    let r = read (4294967296 - 1 - a % 4294967296) (omega arith) in
    let e = r.1 in
    (pos r.0 -ℤ pos (a / 4294967296 + 1), omega (arith, same_in, same_out, sum_is_lem, neg_is, product_is, e))

pub wrapped : (z : ℤ) → IsWrapped z (wrap z)
wrapped z =
    let fits : FitsSigned w32 (wrap z) = SFits-int_wrap w32 z in
    let t = turns_of z in
    record { least = omega (arith, ints, fits); most = omega (arith, ints, fits); turns = t.0; apart = t.1 }

pub only_one : (z v w : ℤ) → IsWrapped z v → IsWrapped z w → v ≡ w
only_one z v w f g =
    let a = f.least in
    let b = f.most in
    let c = g.least in
    let d = g.most in
    let same : v +ℤ f.turns *ℤ pos 4294967296 ≡ w +ℤ g.turns *ℤ pos 4294967296 = sym f.apart ∙ g.apart in
    omega (arith, ints)
