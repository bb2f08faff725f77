-- Paths through a graph.
use Rattle.std.proofs.Common.{◌≡◌, ℕ, zero, suc, ◌+◌, ◌<◌, ◌≤◌, Bool, true, false, List, [], length, refl, ap, sym, subst, arith, inl, inr, ◌⊎◌, if◌then◌else◌}
use Rattle.std.specs.Prelude.{nat_eq, Contains}
use Rattle.std.specs.Option.{option_map_or}
use Rattle.std.proofs.lemmas.Bool.{cases_eq, cases_lt, or_cases, eqb-true, eq-eqb, or_left, or_right}
use Rattle.std.proofs.lemmas.Option.{slice_get_past}
use Rattle.sdl_measures.specs.Links.{nexts, goes_by, goes}
use Rattle.sdl_sound.proofs.Lists.{any_at, at_any}

-- ---- one link more

pub goes_none : (g : List (List ℕ)) (k n : ℕ) → goes_by g k n n ≡ true
goes_none g zero n = eq-eqb n n refl
goes_none g (suc k) n = or_left (nat_eq n n) _ (eq-eqb n n refl)

pub goes_link : (g : List (List ℕ)) (k n t m : ℕ) → Contains (nexts g n) t → goes_by g k t m ≡ true → goes_by g (suc k) n m ≡ true
goes_link g k n t m among way = or_right (nat_eq n m) _ (any_at (λ t. goes_by g k t m) (nexts g n) t among way)

-- A path is empty, or begins with a link.
pub goes_cases : (g : List (List ℕ)) (k n m : ℕ) → goes_by g (suc k) n m ≡ true
    → (n ≡ m) ⊎ ((t : ℕ) × Contains (nexts g n) t × (goes_by g k t m ≡ true))
goes_cases g k n m h = elim (or_cases (nat_eq n m) _ h) [
  | inl e ↦ inl (eqb-true n m e)
  | inr e ↦ inr (at_any (λ t. goes_by g k t m) (nexts g n) e)
]

pub goes_more : (g : List (List ℕ)) (k n m : ℕ) → goes_by g k n m ≡ true → goes_by g (suc k) n m ≡ true
goes_more g zero n m h = or_left (nat_eq n m) _ h
goes_more g (suc k) n m h = elim (goes_cases g k n m h) [
  | inl e ↦ or_left (nat_eq n m) _ (eq-eqb n m e)
  | inr (t, among, way) ↦ goes_link g (suc k) n t m among (goes_more g k t m way)
]

-- A sum that reduces by its first argument.
abbrev plus : ℕ → ℕ → ℕ
plus zero k = k
plus (suc j) k = suc (plus j k)

plus_is : (j k : ℕ) → plus j k ≡ j + k
plus_is zero k = let e : plus 0 k ≡ k = refl in omega (arith, e)
plus_is (suc j) k = omega (arith, plus_is j k)

goes_many : (g : List (List ℕ)) (j k n m : ℕ) → goes_by g k n m ≡ true → goes_by g (plus j k) n m ≡ true
goes_many g zero k n m h = h
goes_many g (suc j) k n m h = goes_more g (plus j k) n m (goes_many g j k n m h)

goes_both : (g : List (List ℕ)) (j k n m r : ℕ) → goes_by g j n m ≡ true → goes_by g k m r ≡ true → goes_by g (plus j k) n r ≡ true
goes_both g zero k n m r first second = subst (λ x. goes_by g k x r ≡ true) (sym (eqb-true n m first)) second
goes_both g (suc j) k n m r first second = elim (goes_cases g j n m first) [
  | inl e ↦ goes_many g (suc j) k n r (subst (λ x. goes_by g k x r ≡ true) (sym e) second)
  | inr (t, among, way) ↦ goes_link g (plus j k) n t r among (goes_both g j k t m r way second)
]

-- ---- as many links as there are nodes are sufficient

abbrev bit : Bool → ℕ
bit b = if b then 1 else 0

-- The number of nodes among the first n that have a path to m of at most k links.
abbrev ways : List (List ℕ) → ℕ → ℕ → ℕ → ℕ
ways g k m zero = 0
ways g k m (suc n) = bit (goes_by g k n m) + ways g k m n

bit_true : (b : Bool) → b ≡ true → bit b ≡ 1
bit_true b e = ap bit e

bit_false : (b : Bool) → b ≡ false → bit b ≡ 0
bit_false b e = ap bit e

bit_most : (b : Bool) → bit b ≤ 1
bit_most true = omega (arith, bit_true true refl)
bit_most false = omega (arith, bit_false false refl)

bit_implies : (a b : Bool) → (a ≡ true → b ≡ true) → bit a ≤ bit b
bit_implies true b h = omega (arith, bit_true b (h refl), bit_true true refl)
bit_implies false b h = omega (arith, bit_false false refl)

bit_back : (a b : Bool) → bit b ≤ bit a → b ≡ true → a ≡ true
bit_back true b h e = refl
bit_back false b h e = absurd (omega (arith, h, bit_true b e, bit_false false refl))

ways_most : (g : List (List ℕ)) (k m n : ℕ) → ways g k m n ≤ n
ways_most g k m zero = let none : ways g k m 0 ≡ 0 = refl in omega (arith, none)
ways_most g k m (suc n) = omega (arith, ways_most g k m n, bit_most (goes_by g k n m))

ways_more : (g : List (List ℕ)) (k m n : ℕ) → ways g k m n ≤ ways g (suc k) m n
ways_more g k m zero =
    let none : ways g k m 0 ≡ 0 = refl in
    let still : ways g (suc k) m 0 ≡ 0 = refl in
    omega (arith, none, still)
ways_more g k m (suc n) = omega (arith, ways_more g k m n, bit_implies (goes_by g k n m) (goes_by g (suc k) n m) (goes_more g k n m))

ways_same : (g : List (List ℕ)) (k m n : ℕ) → ways g (suc k) m n ≤ ways g k m n → (i : ℕ) → i < n → goes_by g (suc k) i m ≡ true → goes_by g k i m ≡ true
ways_same g k m zero e i within h = absurd (omega (arith, within))
ways_same g k m (suc n) e i within h =
    let bits = bit_implies (goes_by g k n m) (goes_by g (suc k) n m) (goes_more g k n m) in
    elim (cases_eq i n) [
      | inl is ↦
          let here : goes_by g (suc k) n m ≡ true = subst (λ x. goes_by g (suc k) x m ≡ true) is h in
          subst (λ x. goes_by g k x m ≡ true) (sym is) (bit_back (goes_by g k n m) (goes_by g (suc k) n m) (omega (arith, e, ways_more g k m n)) here)
      | inr not ↦ ways_same g k m n (omega (arith, e, bits)) i (omega (arith, within, not)) h
    ]

ways_some : (g : List (List ℕ)) (k m n : ℕ) → m < n → 0 < ways g k m n
ways_some g k m zero h = absurd (omega (arith, h))
ways_some g k m (suc n) h = elim (cases_eq m n) [
  | inl is ↦
      let here : goes_by g k n m ≡ true = subst (λ x. goes_by g k x m ≡ true) is (goes_none g k m) in
      omega (arith, bit_true (goes_by g k n m) here)
  | inr not ↦ omega (arith, ways_some g k m n (omega (arith, h, not)))
]

-- One more link reaches no new node.
abbrev Stable : List (List ℕ) → ℕ → ℕ → Type 0
Stable g m k = (n : ℕ) → goes_by g (suc k) n m ≡ true → goes_by g k n m ≡ true

no_next : (g : List (List ℕ)) (n t : ℕ) → length g ≤ n → Contains (nexts g n) t → ⊥
no_next g n t past among =
    let none : nexts g n ≡ [] = ap (λ o. option_map_or (λ (ts : List ℕ). ts) o []) (slice_get_past g n past) in
    let bad : Contains [] t = subst (λ l. Contains l t) none among in
    absurd (omega (arith, bad.1))

stable_within : (g : List (List ℕ)) (m k : ℕ) → ((n : ℕ) → n < length g → goes_by g (suc k) n m ≡ true → goes_by g k n m ≡ true) → Stable g m k
stable_within g m k h n way = elim (cases_lt n (length g)) [
  | inl within ↦ h n within way
  | inr past ↦ elim (goes_cases g k n m way) [
    | inl e ↦ subst (λ x. goes_by g k n x ≡ true) e (goes_none g k n)
    | inr (t, among, rest) ↦ absurd (no_next g n t past among)
  ]
]

stable_on : (g : List (List ℕ)) (m k : ℕ) → Stable g m k → Stable g m (suc k)
stable_on g m k h n way = elim (goes_cases g (suc k) n m way) [
  | inl e ↦ subst (λ x. goes_by g (suc k) n x ≡ true) e (goes_none g (suc k) n)
  | inr (t, among, rest) ↦ goes_link g k n t m among (h t rest)
]

stable_or : (g : List (List ℕ)) (m k : ℕ) → m < length g → Stable g m k ⊎ (k < ways g k m (length g))
stable_or g m zero within = inr (ways_some g 0 m (length g) within)
stable_or g m (suc k) within = elim (stable_or g m k within) [
  | inl stable ↦ inl (stable_on g m k stable)
  | inr less ↦ elim (cases_lt (ways g k m (length g)) (ways g (suc k) m (length g))) [
    | inl grown ↦ inr (omega (arith, less, grown))
    | inr same ↦ inl (stable_on g m k (stable_within g m k (ways_same g k m (length g) same)))
  ]
]

stable_all : (g : List (List ℕ)) (m : ℕ) → m < length g → Stable g m (length g)
stable_all g m within = elim (stable_or g m (length g) within) [
  | inl stable ↦ stable
  | inr more ↦ absurd (omega (arith, more, ways_most g (length g) m (length g)))
]

stable_from : (g : List (List ℕ)) (m k j : ℕ) → Stable g m k → Stable g m (plus j k)
stable_from g m k zero h = h
stable_from g m k (suc j) h = stable_on g m (plus j k) (stable_from g m k j h)

goes_down : (g : List (List ℕ)) (m k j n : ℕ) → Stable g m k → goes_by g (plus j k) n m ≡ true → goes_by g k n m ≡ true
goes_down g m k zero n h way = way
goes_down g m k (suc j) n h way = goes_down g m k j n h (stable_from g m k j h n way)

-- A path of any length implies that there is a path.
pub goes_any : (g : List (List ℕ)) (k n m : ℕ) → m < length g → goes_by g k n m ≡ true → goes g n m ≡ true
goes_any g k n m within way =
    let more : goes_by g (plus (length g) k) n m ≡ true = goes_many g (length g) k n m way in
    let turned : goes_by g (plus k (length g)) n m ≡ true =
    subst (λ x. goes_by g x n m ≡ true) (omega (arith, plus_is (length g) k, plus_is k (length g))) more in
    goes_down g m (length g) k n (stable_all g m within) turned

pub goes_on : (g : List (List ℕ)) (n m r : ℕ) → r < length g → goes g n m ≡ true → goes g m r ≡ true → goes g n r ≡ true
goes_on g n m r within first second = goes_any g (plus (length g) (length g)) n r within (goes_both g (length g) (length g) n m r first second)

pub goes_itself : (g : List (List ℕ)) (n : ℕ) → goes g n n ≡ true
goes_itself g n = goes_none g (length g) n

-- A link followed by a path.
pub goes_first : (g : List (List ℕ)) (n t m : ℕ) → m < length g → Contains (nexts g n) t → goes g t m ≡ true → goes g n m ≡ true
goes_first g n t m within among way = goes_any g (suc (length g)) n m within (goes_link g (length g) n t m among way)

-- A path followed by a link.
pub goes_last : (g : List (List ℕ)) (n m t : ℕ) → t < length g → goes g n m ≡ true → Contains (nexts g m) t → goes g n t ≡ true
goes_last g n m t within way among = goes_on g n m t within way (goes_first g m t t within among (goes_itself g t))
