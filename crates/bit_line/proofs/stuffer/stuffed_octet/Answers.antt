use Rattle.std.proofs.Common.{◌≡◌, refl, ◌<◌, ◌/◌, ◌^◌, ◌+◌, ℕ, sym, subst, ◌∙◌, arith}
use Rattle.bit_line.proofs.OctetLaws.{Nine, fives_of, window_of, first_of, nine_ones, plain, plain_bits, plain_ones, first_small, cut_small, cut_divides, nine, nine_bits, nine_ones_on}
use Rattle.bit_line.proofs.stuffer.stuffed_octet.Goals as goal

pub returns-then-fives-eq0-clause-bits : goal.returns-then-fives-eq0-clause-bits
returns-then-fives-eq0-clause-bits c sent =
    let P : ℕ → Type 0 = λ n. fives_of (window_of n c.args.ones) ≡ 0 in
    plain_bits c.args.ones c.args.octet sent (plain c.args.ones c.args.octet c.requires.few c.ranges.octet.fits (subst P c.from.ensures c.if-fives-eq0.true))

pub returns-then-fives-eq0-clause-ones : goal.returns-then-fives-eq0-clause-ones
returns-then-fives-eq0-clause-ones c sent count =
    let P : ℕ → Type 0 = λ n. fives_of (window_of n c.args.ones) ≡ 0 in
    c.leading_ones.ensures ∙ plain_ones c.args.ones c.args.octet sent (plain c.args.ones c.args.octet c.requires.few c.ranges.octet.fits (subst P c.from.ensures c.if-fives-eq0.true)) count

pub returns-then-fives-eq0-clause-few : goal.returns-then-fives-eq0-clause-few
returns-then-fives-eq0-clause-few c =
    let P : ℕ → Type 0 = λ n. fives_of (window_of n c.args.ones) ≡ 0 in
    let Q : ℕ → Type 0 = λ n. n < 5 in
    subst Q (sym c.leading_ones.ensures) (plain c.args.ones c.args.octet c.requires.few c.ranges.octet.fits (subst P c.from.ensures c.if-fives-eq0.true)).few

pub overflow_shr-fives-3 : goal.overflow_shr-fives-3
overflow_shr-fives-3 c =
    let Some_five : ℕ → Type 0 = λ n. fives_of (window_of n c.args.ones) ≡ 0 → ⊥ in
    rw c.from.ensures (omega (arith, first_small c.args.ones c.args.octet c.requires.few c.ranges.octet.fits (subst Some_five c.from.ensures c.if-fives-eq0.false)))

pub overflow_shl-bits : goal.overflow_shl-bits
overflow_shl-bits c =
    let Some_five : ℕ → Type 0 = λ n. fives_of (window_of n c.args.ones) ≡ 0 → ⊥ in
    rw (c.from.ensures, c.from-2.ensures) (omega (arith, cut_small c.args.ones c.args.octet c.requires.few c.ranges.octet.fits (subst Some_five c.from.ensures c.if-fives-eq0.false)))

pub nonzero_rem-bits : goal.nonzero_rem-bits
nonzero_rem-bits c =
    let Some_five : ℕ → Type 0 = λ n. fives_of (window_of n c.args.ones) ≡ 0 → ⊥ in
    rw (c.from.ensures, c.from-2.ensures) (cut_divides c.args.ones c.args.octet c.requires.few c.ranges.octet.fits (subst Some_five c.from.ensures c.if-fives-eq0.false))

pub overflow_sub-cut-2 : goal.overflow_sub-cut-2
overflow_sub-cut-2 c =
    let Some_five : ℕ → Type 0 = λ n. fives_of (window_of n c.args.ones) ≡ 0 → ⊥ in
    rw (c.from.ensures, c.from-2.ensures) (omega (arith, cut_small c.args.ones c.args.octet c.requires.few c.ranges.octet.fits (subst Some_five c.from.ensures c.if-fives-eq0.false)))

pub returns-clause-bits : goal.returns-clause-bits
returns-clause-bits c sent count =
    let Some_five : ℕ → Type 0 = λ n. fives_of (window_of n c.args.ones) ≡ 0 → ⊥ in
    let Once : ℕ → Type 0 = λ n. fives_of (window_of n c.args.ones) / 2 ^ (first_of n c.args.ones + 5) ≡ 0 in
    let is : Nine c.args.ones c.args.octet = nine c.args.ones c.args.octet c.requires.few c.ranges.octet.fits (subst Some_five c.from.ensures c.if-fives-eq0.false) (subst Once c.from.ensures c.if-fives-first-ne0.false) in
    rw (c.from.ensures, c.from-2.ensures, c.from-3.ensures, c.from-4.ensures) (nine_bits c.args.ones c.args.octet sent is count)

pub returns-clause-ones : goal.returns-clause-ones
returns-clause-ones c sent count =
    let Some_five : ℕ → Type 0 = λ n. fives_of (window_of n c.args.ones) ≡ 0 → ⊥ in
    let Once : ℕ → Type 0 = λ n. fives_of (window_of n c.args.ones) / 2 ^ (first_of n c.args.ones + 5) ≡ 0 in
    let is : Nine c.args.ones c.args.octet = nine c.args.ones c.args.octet c.requires.few c.ranges.octet.fits (subst Some_five c.from.ensures c.if-fives-eq0.false) (subst Once c.from.ensures c.if-fives-first-ne0.false) in
    let same : c.min.result ≡ nine_ones c.args.octet c.args.ones = rw (c.min.ensures, c.leading_ones-2.ensures, c.from.ensures, c.from-2.ensures) refl in
    same ∙ nine_ones_on c.args.ones c.args.octet sent is count

pub returns-clause-few : goal.returns-clause-few
returns-clause-few c =
    let Some_five : ℕ → Type 0 = λ n. fives_of (window_of n c.args.ones) ≡ 0 → ⊥ in
    let Once : ℕ → Type 0 = λ n. fives_of (window_of n c.args.ones) / 2 ^ (first_of n c.args.ones + 5) ≡ 0 in
    let is : Nine c.args.ones c.args.octet = nine c.args.ones c.args.octet c.requires.few c.ranges.octet.fits (subst Some_five c.from.ensures c.if-fives-eq0.false) (subst Once c.from.ensures c.if-fives-first-ne0.false) in
    let same : c.min.result ≡ nine_ones c.args.octet c.args.ones = rw (c.min.ensures, c.leading_ones-2.ensures, c.from.ensures, c.from-2.ensures) refl in
    omega (arith, same, is.few)
