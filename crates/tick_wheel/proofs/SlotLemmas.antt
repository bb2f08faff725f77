-- The timers in the lists of slots, and the due ones among them.
use Rattle.std.proofs.Common.{◌≡◌, ℕ, zero, suc, ◌<◌, ◌≤◌, ◌+◌, ◌-◌, ◌%◌, min, Bool, true, false, ◌||◌, List, [], length, get_or, refl, sym, ap, ◌∙◌, inl, inr, arith, eqb, Option, Some, None}
use Rattle.std.specs.List.{list_any, IsDistinct}
use Rattle.std.proofs.lemmas.Bool.Decides.{nat_tests, eqb_tells, leb_tells}
use Rattle.std.proofs.lemmas.Bool.{true≢false, or_cases}
use Rattle.std.proofs.lemmas.List.Folds.{list_any-append}
use Rattle.std.proofs.lemmas.Map.Steps.{length-le_from_distinct_below}
use Rattle.std.proofs.Math.Bool.{or-true}
use Rattle.std.proofs.Math.ListN.{get_or-eq_default}
use Rattle.tick_wheel.specs.Sizes.{SLOTS}
use Rattle.tick_wheel.specs.Table.{PLACES}
use Rattle.tick_wheel.specs.Slots.{in_slot, IsWheel, visited}
use Rattle.tick_wheel.proofs.Lists.{distinct-none, distinct-append}

-- ---- the deadlines of the next clocks' slots

-- whether a deadline is congruent to one of the next clocks, the last of which is tested last
abbrev pub near : ℕ → ℕ → ℕ → Bool
near clock zero d = false
near clock (suc n) d = near clock n d || eqb (d % SLOTS) ((clock + suc n) % SLOTS)

abbrev pub near_place : ℕ → ℕ → Option ℕ → Bool
near_place clock n None = false
near_place clock n (Some d) = near clock n d

near_place-zero : (clock : ℕ) (o : Option ℕ) → false ≡ near_place clock zero o
near_place-zero clock None = refl
near_place-zero clock (Some d) = refl

near_place-suc : (clock n : ℕ) (o : Option ℕ) → near_place clock (suc n) o ≡ (near_place clock n o || in_slot ((clock + suc n) % SLOTS) o)
near_place-suc clock n None = refl
near_place-suc clock n (Some d) = refl

near-not : (clock n m d : ℕ) → n ≤ m → m < SLOTS → near clock n d ≡ true → eqb (d % SLOTS) ((clock + suc m) % SLOTS) ≡ false
near-not clock zero m d h g e = absurd (true≢false (sym e))
near-not clock (suc n) m d h g e = elim (or_cases (near clock n d) (eqb (d % SLOTS) ((clock + suc n) % SLOTS)) e) [
  | inl before ↦ near-not clock n m d (omega arith) g before
  | inr here ↦ elim (eqb_tells (d % SLOTS) ((clock + suc n) % SLOTS)) [
    | inl is ↦ elim (eqb_tells (d % SLOTS) ((clock + suc m) % SLOTS)) [
      | inl also ↦ absurd (omega (arith, is.1, also.1, h, g))
      | inr off ↦ off.0
    ]
    | inr off ↦ absurd (true≢false (sym here ∙ off.0))
  ]
]

pub near-at : (clock n step d : ℕ) → 1 ≤ step → step ≤ n → d % SLOTS ≡ (clock + step) % SLOTS → near clock n d ≡ true
near-at clock zero step d h g e = absurd (omega arith)
near-at clock (suc n) step d h g e = elim (eqb_tells step (suc n)) [
  | inl is ↦ (let last : eqb (d % SLOTS) ((clock + suc n) % SLOTS) ≡ true = rw (← is.1) (let same : eqb (d % SLOTS) ((clock + step) % SLOTS) ≡ true = grind (arith, nat_tests) in same) in rw last (or-true (near clock n d)))
  | inr off ↦ (let earlier = near-at clock n step d h (omega (arith, g, off.1)) e in ap (λ b. b || eqb (d % SLOTS) ((clock + suc n) % SLOTS)) earlier)
]

near-all : (clock n d : ℕ) → SLOTS ≤ n → near clock n d ≡ true
near-all clock n d h = near-at clock n (1 + (d % SLOTS + 255 + (256 - clock % SLOTS)) % SLOTS) d (omega arith) (omega arith) (omega arith)

pub near-min : (clock n d : ℕ) → near clock (min n SLOTS) d ≡ near clock n d
near-min clock n d = elim (leb_tells n SLOTS) [
  | inl few ↦ (let all : min n SLOTS ≡ n = omega (arith, few.1) in ap (λ k. near clock k d) all)
  | inr many ↦ near-all clock (min n SLOTS) d (omega (arith, many.1)) ∙ sym (near-all clock n d (omega (arith, many.1)))
]

-- ---- the visited lists

module _ (clock : ℕ) (table : List (Option ℕ)) (lists : List (List ℕ)) (w : IsWheel clock table lists) where
  pub visited-has : (n q : ℕ) → list_any (eqb q) (visited lists clock n) ≡ near_place clock n (get_or table q None)
  visited-has zero q = near_place-zero clock (get_or table q None)
  visited-has (suc n) q =
      list_any-append (eqb q) (visited lists clock n) (get_or lists ((clock + suc n) % SLOTS) [])
      ∙ ap (λ b. b || list_any (eqb q) (get_or lists ((clock + suc n) % SLOTS) [])) (visited-has n q)
      ∙ ap (λ b. near_place clock n (get_or table q None) || b) (w.has ((clock + suc n) % SLOTS) q (omega arith))
      ∙ sym (near_place-suc clock n (get_or table q None))

  slot-off : (n : ℕ) (o : Option ℕ) → n < SLOTS → near_place clock n o ≡ true → in_slot ((clock + suc n) % SLOTS) o ≡ false
  slot-off n None h e = refl
  slot-off n (Some d) h e = near-not clock n n d (omega arith) h e

  pub visited-distinct : (n : ℕ) → n ≤ SLOTS → IsDistinct eqb (visited lists clock n)
  visited-distinct zero h = distinct-none
  visited-distinct (suc n) h = distinct-append (visited lists clock n) (get_or lists ((clock + suc n) % SLOTS) []) (visited-distinct n (omega arith)) (w.once ((clock + suc n) % SLOTS) (omega arith))
      (λ q e. w.has ((clock + suc n) % SLOTS) q (omega arith) ∙ slot-off n (get_or table q None) (omega arith) (sym (visited-has n q) ∙ e))

  pub visited-below : (n q : ℕ) → list_any (eqb q) (visited lists clock n) ≡ true → q < PLACES
  visited-below n q e = elim (leb_tells PLACES q) [
    | inl out ↦ absurd (true≢false (sym e ∙ visited-has n q ∙ ap (near_place clock n) (get_or-eq_default table None {n = q} (omega (arith, out.1, w.len)))))
    | inr within ↦ within.1
  ]

  pub visited-few : (n : ℕ) → n ≤ SLOTS → length (visited lists clock n) ≤ PLACES
  visited-few n h = length-le_from_distinct_below (visited lists clock n) PLACES (visited-distinct n h) (visited-below n)
