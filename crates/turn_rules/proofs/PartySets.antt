-- Sets of parties, bit by bit.
use Rattle.std.proofs.Common.{◌≡◌, ℕ, zero, suc, ◌+◌, ◌-◌, ◌*◌, ◌/◌, ◌%◌, ◌^◌, ◌<◌, ◌≤◌, min, true, false, ◌&&◌, ◌||◌, eqb, List, length, refl, sym, ap, ◌∙◌, arith, inl, inr}
use Rattle.std.specs.Prelude.{ltb, bit_and, bit_or}
use Rattle.std.specs.Int.{bit_at}
use Rattle.std.proofs.lemmas.Nat.Bits.{bit_at_and, bit_at_or, bit_at-lt, bit_at-pow_same, bit_at-pow_other, bit_at_ones, bit_at_ones_above, ones_shr, same_from_bits, bit_at-zero}
use Rattle.std.proofs.lemmas.Bool.{and_parts, cases_eq, cases_Bool, eq-eqb, ne_eqb, ltb-true, ltb-false, lt-ltb}
use Rattle.std.proofs.lemmas.Nat.{one_shl}
use Rattle.turn_code.specs.declared.input.Party.{Party}
use Rattle.turn_code.specs.declared.input.Party.TheVariants.{Environment, Process}
use Rattle.turn_code.specs.declared.draft.DraftProcess.{DraftProcess}
use Rattle.turn_code.specs.Routes.{IsPartyOf}
use Rattle.turn_rules.specs.Parties.{seat, holds}
use Rattle.plain_laws.proofs.Numbers.{most_is_one, least_is_one}

least_is_left : (m n : ℕ) → m < 2 → n < 2 → (eqb m 1 ≡ true → eqb n 1 ≡ true) → min m n ≡ m
least_is_left zero n p q h = omega arith
least_is_left (suc zero) zero p q h = let wrong : false ≡ true = h refl in cc
least_is_left (suc zero) (suc zero) p q h = refl
least_is_left (suc zero) (suc (suc n)) p q h = absurd (omega arith)
least_is_left (suc (suc m)) n p q h = absurd (omega arith)

pub holds_none : (v : ℕ) → holds (record { 0 = 0 }) v ≡ false
unfolding holds
holds_none v = ap (λ n. eqb n 1) (bit_at-zero v)

pub holds_and : (a b v : ℕ) → holds (record { 0 = bit_and a b }) v ≡ (holds (record { 0 = a }) v && holds (record { 0 = b }) v)
unfolding holds
holds_and a b v = ap (λ n. eqb n 1) (bit_at_and a b v) ∙ least_is_one (bit_at a v) (bit_at b v) (bit_at-lt a v) (bit_at-lt b v)

pub holds_or : (a b v : ℕ) → holds (record { 0 = bit_or a b }) v ≡ (holds (record { 0 = a }) v || holds (record { 0 = b }) v)
unfolding holds
holds_or a b v = ap (λ n. eqb n 1) (bit_at_or a b v) ∙ most_is_one (bit_at a v) (bit_at b v) (bit_at-lt a v) (bit_at-lt b v)

pub holds_alone : (k v : ℕ) → k < 32 → holds (record { 0 = 1 * 2 ^ k % 4294967296 }) v ≡ eqb k v
unfolding holds
holds_alone k v low =
    ap (λ n. eqb (bit_at n v) 1) (one_shl k 32 low)
    ∙ elim (cases_eq v k) [
      | inl e ↦ ap (λ n. eqb (bit_at (2 ^ k) n) 1) e ∙ (ap (λ n. eqb n 1) (bit_at-pow_same k) ∙ sym (eq-eqb k v (sym e)))
      | inr ne ↦ ap (λ n. eqb n 1) (bit_at-pow_other k v ne) ∙ sym (ne_eqb k v (λ e. ne (sym e)))
    ]

pub holds_with : (a k v : ℕ) → k < 32 → holds (record { 0 = bit_or a (1 * 2 ^ k % 4294967296) }) v ≡ (holds (record { 0 = a }) v || eqb k v)
holds_with a k v low = holds_or a (1 * 2 ^ k % 4294967296) v ∙ ap (λ b. holds (record { 0 = a }) v || b) (holds_alone k v low)

pub within_from : (a b : ℕ) → bit_and a b ≡ a → (v : ℕ) → holds (record { 0 = a }) v ≡ true → holds (record { 0 = b }) v ≡ true
within_from a b h v one =
    let e : holds (record { 0 = a }) v ≡ (holds (record { 0 = a }) v && holds (record { 0 = b }) v) =
    ap (λ u. holds (record { 0 = u }) v) (sym h) ∙ holds_and a b v in
    (and_parts (holds (record { 0 = a }) v) (holds (record { 0 = b }) v) (sym e ∙ one)).1

pub within_to : (a b : ℕ) → ((v : ℕ) → holds (record { 0 = a }) v ≡ true → holds (record { 0 = b }) v ≡ true) → bit_and a b ≡ a
unfolding holds
within_to a b h =
    same_from_bits (bit_and a b) a (λ v. bit_at_and a b v ∙ least_is_left (bit_at a v) (bit_at b v) (bit_at-lt a v) (bit_at-lt b v) (h v))

-- ---- the set of the first `count` bits
pub holds_first : (count v : ℕ) → count ≤ 16 → holds (record { 0 = 4294967295 / 2 ^ (31 - count) }) v ≡ ltb v (1 + count)
unfolding holds
holds_first count v few =
    let left : 32 - (31 - count) ≡ 1 + count = omega arith in
    let ones : 4294967295 / 2 ^ (31 - count) ≡ 2 ^ (1 + count) - 1 = ones_shr 32 (31 - count) (omega arith) ∙ ap (λ k. 2 ^ k - 1) left in
    ap (λ n. eqb (bit_at n v) 1) ones
    ∙ elim (cases_Bool (ltb v (1 + count))) [
      | inl below ↦ ap (λ n. eqb n 1) (bit_at_ones (1 + count) v (ltb-true v (1 + count) below)) ∙ sym below
      | inr above ↦ ap (λ n. eqb n 1) (bit_at_ones_above (1 + count) v (ltb-false v (1 + count) above)) ∙ sym above
    ]

-- ---- the bits of parties

pub there_from : (ps : List DraftProcess) (x : Party) → length ps ≤ 16 → ltb (seat x) (1 + length ps) ≡ true → IsPartyOf ps x
there_from ps Environment few h = tt
there_from ps (Process q) few h =
    let below : 1 + min q.0 30 < 1 + length ps = ltb-true (1 + min q.0 30) (1 + length ps) h in
    let is : q.0 < length ps = omega arith in is

pub there_to : (ps : List DraftProcess) (x : Party) → length ps ≤ 16 → IsPartyOf ps x → ltb (seat x) (1 + length ps) ≡ true
there_to ps Environment few h = lt-ltb 0 (1 + length ps) (omega arith)
there_to ps (Process q) few h =
    let below : q.0 < length ps = h in
    lt-ltb (1 + min q.0 30) (1 + length ps) (omega arith)

pub same_party : (x y : Party) → seat x ≤ 16 → seat y ≡ seat x → y ≡ x
same_party Environment Environment small e = refl
same_party Environment (Process r) small e = absurd (omega arith)
same_party (Process q) Environment small e = absurd (omega arith)
same_party (Process q) (Process r) small e =
    let same : r.0 ≡ q.0 = omega arith in
    ap (λ n. Process (record { 0 = n })) same

pub seat_small : (ps : List DraftProcess) (x : Party) → length ps ≤ 16 → ltb (seat x) (1 + length ps) ≡ true → seat x ≤ 16
seat_small ps x few h = let below = ltb-true (seat x) (1 + length ps) h in omega arith
