-- Counts made from the end of the code on.
use Rattle.std.proofs.Common.{◌≡◌, ℕ, ◌+◌, ◌-◌, ◌<◌, ◌≤◌, ⊎_elim, Bool, true, false, cond, List, [], ◌∷◌, length, map, Some, refl, sym, ap, ◌∙◌, subst, arith, set, length-set, get_or-set_same, get_or-set_other}
use Rattle.std.specs.Prelude.{slice_get, nat_lt}
use Rattle.std.proofs.lemmas.Bool.{cases_eq, cases_lt}
use Rattle.std.proofs.lemmas.Bool.Decides.{nat_tests}
use Rattle.turn_code.specs.declared.instruction.Instruction.{Instruction}
use Rattle.turn_code.specs.Code.{successors}
use Rattle.turn_code.specs.Rules.{greatest}
use Rattle.sdl_compile.specs.PlaceCounts.{number_at, read_at, AreCountsFrom, AreWithin}
use Rattle.turn_code.proofs.Lists.{within as none_past}

pub same_all : (f g : ℕ → ℕ) (js : List ℕ) → ((j : ℕ) → f j ≡ g j) → greatest (map f js) ≡ greatest (map g js)
same_all f g [] e = refl
same_all f g (j ∷ js) e = let h = same_all f g js e in let k = e j in omega (arith, h, k)

greatest_within : (f : ℕ → ℕ) (js : List ℕ) (b : ℕ) → ((j : ℕ) → f j ≤ b) → greatest (map f js) ≤ b
greatest_within f [] b h = omega arith
greatest_within f (j ∷ js) b h = let k = greatest_within f js b h in let m = h j in omega (arith, k, m)

pub read_ahead : (known counts : List ℕ) (k j : ℕ) → k < j → read_at known counts k j ≡ number_at counts j
read_ahead known counts k j lt = by_test (nat_lt k j) refl
  where
    by_test : (b : Bool) → nat_lt k j ≡ b → cond b (number_at counts j) (number_at known j) ≡ number_at counts j
    by_test true e = refl
    by_test false e = absurd (let h : j ≤ k = grind (arith, nat_tests) in omega (arith, h, lt))

pub read_back : (known counts : List ℕ) (k j : ℕ) → j ≤ k → read_at known counts k j ≡ number_at known j
read_back known counts k j le = by_test (nat_lt k j) refl
  where
    by_test : (b : Bool) → nat_lt k j ≡ b → cond b (number_at counts j) (number_at known j) ≡ number_at known j
    by_test true e = absurd (let h : k < j = grind (arith, nat_tests) in omega (arith, h, le))
    by_test false e = refl

-- The counts from place p on are made; before it the list still has the known counts.
pub record HasCounted (w : Instruction → ℕ) (known : List ℕ) (code : List Instruction) (counts : List ℕ) (p : ℕ) : Type 0 where
  pub size : length counts ≡ length code
  pub done : (k : ℕ) (i : Instruction) → p ≤ k → slice_get code k ≡ Some i → number_at counts k ≡ w i + greatest (map (read_at known counts k) (successors i k))
  pub left : (k : ℕ) → k < p → number_at counts k ≡ number_at known k
  pub within : AreWithin (512 + (length code - p)) counts

pub begun : (w : Instruction → ℕ) (known : List ℕ) (code : List Instruction) → length known ≡ length code → AreWithin 512 known → HasCounted w known code known (length code)
begun w known code e h = record {
  size = e;
  done = λ k i le at. absurd (let f = none_past code k i at in omega (arith, f, le));
  left = λ k lt. refl;
  within = λ k. let f = h k in omega (arith, f);
}

pub ended : (w : Instruction → ℕ) (known : List ℕ) (code : List Instruction) (counts : List ℕ) → HasCounted w known code counts 0 → AreCountsFrom w known code counts
ended w known code counts h = record { length = h.size; each = λ k i at. h.done k i (omega arith) at }

pub counted : (w : Instruction → ℕ) (known : List ℕ) (code : List Instruction) (counts : List ℕ) (q : ℕ) (i : Instruction) (x : ℕ) → HasCounted w known code counts (q + 1) → slice_get code q ≡ Some i → w i ≤ 1
    → x ≡ w i + greatest (map (number_at counts) (successors i q)) → HasCounted w known code (set counts q x) q
counted w known code counts q i x h at one e =
    record {
      size = length-set counts q x ∙ h.size;
      done = λ k j le here. ⊎_elim (λ (f : k ≡ q). this k j f here) (λ f. later k j (let g : q < k = omega (arith, le, f) in g) here) (cases_eq k q);
      left = λ k lt. other k (λ f. omega (arith, f, lt)) ∙ h.left k (omega (arith, lt));
      within = λ k. ⊎_elim (λ (f : k ≡ q). let g = same k f in let m = greatest_within (number_at counts) (successors i q) (512 + (length code - (q + 1))) h.within in omega (arith, g, m, one, e, lt))
          (λ f. let g = other k f in let m = h.within k in omega (arith, g, m)) (cases_eq k q);
    }
  where
    lt : q < length code
    lt = none_past code q i at

    same : (k : ℕ) → k ≡ q → number_at (set counts q x) k ≡ x
    same k f = ap (number_at (set counts q x)) f ∙ get_or-set_same counts q x 0 (omega (arith, lt, h.size))

    other : (k : ℕ) → (k ≡ q → ⊥) → number_at (set counts q x) k ≡ number_at counts k
    other k f = get_or-set_other counts q k x 0 f

    reads : (j : ℕ) → read_at known (set counts q x) q j ≡ number_at counts j
    reads j = ⊎_elim (λ (f : q < j). read_ahead known (set counts q x) q j f ∙ other j (λ g. omega (arith, f, g)))
        (λ f. let g : j ≤ q = omega (arith, f) in read_back known (set counts q x) q j g ∙ sym (h.left j (omega (arith, g)))) (cases_lt q j)

    reads_later : (k j : ℕ) → q < k → read_at known (set counts q x) k j ≡ read_at known counts k j
    reads_later k j lt = ⊎_elim (λ (f : k < j). read_ahead known (set counts q x) k j f ∙ other j (λ g. omega (arith, f, g, lt)) ∙ sym (read_ahead known counts k j f))
        (λ f. let g : j ≤ k = omega (arith, f) in read_back known (set counts q x) k j g ∙ sym (read_back known counts k j g)) (cases_lt k j)

    this : (k : ℕ) (j : Instruction) → k ≡ q → slice_get code k ≡ Some j → number_at (set counts q x) k ≡ w j + greatest (map (read_at known (set counts q x) k) (successors j k))
    this k j f here =
        let there : i ≡ j = cc (at, here, f) in
        let g : x ≡ w i + greatest (map (read_at known (set counts q x) q) (successors i q)) =
        e ∙ ap (λ n. w i + n) (sym (same_all (read_at known (set counts q x) q) (number_at counts) (successors i q) reads)) in
        same k f ∙ g ∙ ap (λ j. w j + greatest (map (read_at known (set counts q x) q) (successors j q))) there
        ∙ ap (λ k. w j + greatest (map (read_at known (set counts q x) k) (successors j k))) (sym f)

    later : (k : ℕ) (j : Instruction) → q < k → slice_get code k ≡ Some j → number_at (set counts q x) k ≡ w j + greatest (map (read_at known (set counts q x) k) (successors j k))
    later k j lt here =
        other k (λ f. omega (arith, f, lt)) ∙ h.done k j (omega (arith, lt)) here
        ∙ ap (λ n. w j + n) (sym (same_all (read_at known (set counts q x) k) (read_at known counts k) (successors j k) (λ m. reads_later k m lt)))

-- One more place, as the loop makes it.
pub step : (w : Instruction → ℕ) (known : List ℕ) (code : List Instruction) (counts : List ℕ) (p : ℕ) (i : Instruction) (x y : ℕ) → HasCounted w known code counts p → 0 < p → slice_get code (p - 1) ≡ Some i → x ≤ 1
    → x ≡ w i → y ≡ greatest (map (number_at counts) (successors i (p - 1))) → HasCounted w known code (set counts (p - 1) (x + y)) (p - 1)
step w known code counts p i x y h lt at one e f =
    let q : p ≡ p - 1 + 1 = omega (arith, lt) in
    counted w known code counts (p - 1) i (x + y) (subst (HasCounted w known code counts) q h) at (omega (arith, one, e)) (omega (arith, e, f))
