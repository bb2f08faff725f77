-- The order of paths.
use Rattle.std.proofs.Common.{◌≡◌, ℕ, zero, suc, ◌+◌, ◌<◌, ◌≤◌, List, [], ◌∷◌, ◌++◌, length, take, get_or, None, Some, refl, ap, sym, ◌∙◌, subst, arith, inl, inr, length-append}
use Rattle.std.specs.Prelude.{slice_get}
use Rattle.std.proofs.lemmas.Bool.{cases_eq, cases_lt}
use Rattle.std.proofs.lemmas.Option.{slice_get-get_or}
use Rattle.sdl_unset.specs.declared.paths.Step.{Step}
use Rattle.sdl_unset.specs.declared.paths.Step.TheVariants.{Start, Input}
use Rattle.sdl_unset.specs.Order.{Precedes, Earlier, Before, NotAfter}
use Rattle.sdl_unset.specs.Visits.{ComesBefore}

precedes_trans : (a b c : Step) → Precedes a b → Precedes b c → Precedes a c
precedes_trans Start Start c h k = absurd h
precedes_trans Start (Input q j) Start h k = absurd k
precedes_trans Start (Input q j) (Input r l) h k = tt
precedes_trans (Input s i) Start c h k = absurd h
precedes_trans (Input s i) (Input q j) Start h k = absurd k
precedes_trans (Input s i) (Input q j) (Input r l) h k = elim h [
  | inl lt ↦ elim k [ inl more ↦ inl (omega (arith, lt, more)) | inr e ↦ inl (omega (arith, lt, e.0)) ]
  | inr d ↦ elim k [ inl more ↦ inl (omega (arith, d.0, more)) | inr e ↦ inr (d.0 ∙ e.0, omega (arith, d.1, e.1)) ]
]

earlier_trans : (a b c : List Step) → Earlier a b → Earlier b c → Earlier a c
earlier_trans [] b c h k = absurd h
earlier_trans (x ∷ a) [] c h k = absurd h
earlier_trans (x ∷ a) (y ∷ b) [] h k = absurd k
earlier_trans (x ∷ a) (y ∷ b) (z ∷ c) h k = elim h [
  | inl p ↦ elim k [ inl q ↦ inl (precedes_trans x y z p q) | inr q ↦ inl (subst (λ (u : Step). Precedes x u) q.0 p) ]
  | inr p ↦ elim k [ inl q ↦ inl (subst (λ (u : Step). Precedes u z) (sym p.0) q) | inr q ↦ inr (p.0 ∙ q.0, earlier_trans a b c p.1 q.1) ]
]

pub before_trans : (a b c : List Step) → Before a b → Before b c → Before a c
before_trans a b c h k = elim h [
  | inl lt ↦ elim k [ inl more ↦ inl (omega (arith, lt, more)) | inr e ↦ inl (omega (arith, lt, e.0)) ]
  | inr d ↦ elim k [ inl more ↦ inl (omega (arith, d.0, more)) | inr e ↦ inr (d.0 ∙ e.0, earlier_trans a b c d.1 e.1) ]
]

pub before_by : (a b c : List Step) → NotAfter a b → Before b c → Before a c
before_by a b c h k = elim h [
  | inl e ↦ subst (λ (u : List Step). Before u c) (sym e) k
  | inr l ↦ before_trans a b c l k
]

pub by_before : (a b c : List Step) → Before a b → NotAfter b c → Before a c
by_before a b c h k = elim k [
  | inl e ↦ subst (λ (u : List Step). Before a u) e h
  | inr l ↦ before_trans a b c h l
]

pub not_after_trans : (a b c : List Step) → NotAfter a b → NotAfter b c → NotAfter a c
not_after_trans a b c h k = elim h [
  | inl e ↦ subst (λ (u : List Step). NotAfter u c) (sym e) k
  | inr l ↦ inr (by_before a b c l k)
]

pub no_longer : (a b : List Step) → NotAfter a b → length a ≤ length b
no_longer a b h = elim h [
  | inl e ↦ omega (arith, ap length e)
  | inr l ↦ elim l [ inl lt ↦ omega (arith, lt) | inr e ↦ omega (arith, e.0) ]
]

-- ---- one more step

pub one_more : (a : List Step) (x : Step) → length (a ++ x ∷ []) ≡ length a + 1
one_more a x = length-append a (x ∷ [])

earlier_more : (a b : List Step) (x y : Step) → Earlier a b → Earlier (a ++ x ∷ []) (b ++ y ∷ [])
earlier_more [] b x y h = absurd h
earlier_more (p ∷ a) [] x y h = absurd h
earlier_more (p ∷ a) (q ∷ b) x y h = elim h [
  | inl first ↦ inl first
  | inr e ↦ inr (e.0, earlier_more a b x y e.1)
]

earlier_last : (a : List Step) (x y : Step) → Precedes x y → Earlier (a ++ x ∷ []) (a ++ y ∷ [])
earlier_last [] x y h = inl h
earlier_last (p ∷ a) x y h = inr (refl, earlier_last a x y h)

pub before_more : (a b : List Step) (x y : Step) → Before a b → Before (a ++ x ∷ []) (b ++ y ∷ [])
before_more a b x y h = elim h [
  | inl lt ↦ inl (omega (arith, lt, one_more a x, one_more b y))
  | inr e ↦ inr (one_more a x ∙ (ap (λ n. n + 1) e.0 ∙ sym (one_more b y)), earlier_more a b x y e.1)
]

pub before_last : (a : List Step) (x y : Step) → Precedes x y → Before (a ++ x ∷ []) (a ++ y ∷ [])
before_last a x y h = inr (one_more a x ∙ sym (one_more a y), earlier_last a x y h)

pub not_after_more : (a b : List Step) (x : Step) → NotAfter a b → NotAfter (a ++ x ∷ []) (b ++ x ∷ [])
not_after_more a b x h = elim h [
  | inl e ↦ inl (ap (λ (l : List Step). l ++ x ∷ []) e)
  | inr l ↦ inr (before_more a b x x l)
]

-- If a visit comes before another one, so do the paths that go on from it.
pub before_steps : (a : List Step) (s : ℕ) (b : List Step) (q i j : ℕ) → ComesBefore a s b q → Before (a ++ Input s i ∷ []) (b ++ Input q j ∷ [])
before_steps a s b q i j h = elim h [
  | inl l ↦ before_more a b (Input s i) (Input q j) l
  | inr e ↦ subst (λ (u : List Step). Before (a ++ Input s i ∷ []) (u ++ Input q j ∷ [])) e.0 (before_last a (Input s i) (Input q j) (inl e.1))
]

-- A later step from the same state doesn't come before an earlier one.
pub not_after_step : (a b : List Step) (s i j : ℕ) → NotAfter a b → i < j → NotAfter (a ++ Input s i ∷ []) (b ++ Input s j ∷ [])
not_after_step a b s i j h lt =
    not_after_trans (a ++ Input s i ∷ []) (b ++ Input s i ∷ []) (b ++ Input s j ∷ []) (not_after_more a b (Input s i) h)
    (inr (before_last b (Input s i) (Input s j) (inr (refl, lt))))

-- A visit before one by path c is also before one by path b, if c isn't after b.
pub comes_before : (a : List Step) (s : ℕ) (c b : List Step) (q : ℕ) → ComesBefore a s c q → NotAfter c b → ComesBefore a s b q
comes_before a s c b q h k = elim h [
  | inl l ↦ inl (by_before a c b l k)
  | inr e ↦ elim k [ inl same ↦ inr (e.0 ∙ same, e.1) | inr more ↦ inl (subst (λ (u : List Step). Before u b) (sym e.0) more) ]
]

-- ---- finding which of two paths comes first

-- Two steps of which neither precedes the other are equal.
pub one_step : (a b : Step) → (Precedes a b → ⊥) → (Precedes b a → ⊥) → a ≡ b
one_step Start Start h k = refl
one_step Start (Input q j) h k = absurd (h tt)
one_step (Input s i) Start h k = absurd (k tt)
one_step (Input s i) (Input q j) h k = elim (cases_lt s q) [
  | inl lt ↦ absurd (h (inl lt))
  | inr ge ↦ elim (cases_eq s q) [
    | inr ne ↦ absurd (k (inl (omega (arith, ge, ne))))
    | inl e ↦ elim (cases_lt i j) [
      | inl lt ↦ absurd (h (inr (e, lt)))
      | inr more ↦ elim (cases_eq i j) [
        | inr ne ↦ absurd (k (inr (sym e, omega (arith, more, ne))))
        | inl same ↦ ap (λ (n : ℕ). Input n i) e ∙ ap (λ (n : ℕ). Input q n) same
      ]
    ]
  ]
]

some_step : (a b : Step) → Some a ≡ Some b → a ≡ b
some_step a b h = cc

tails : (x y : Step) (xs ys : List Step) → x ∷ xs ≡ y ∷ ys → (x ≡ y) × (xs ≡ ys)
tails x y xs ys h = (cc, cc)

-- Two paths are equal up to a place, and their steps there are in order.
pub earlier_at : (path other : List Step) (n : ℕ) (a b : Step) → take n path ≡ take n other → slice_get path n ≡ Some a → slice_get other n ≡ Some b
    → Precedes a b → Earlier path other
earlier_at [] other n a b same at there h = let bad : None ≡ Some a = at in absurd (let k : ⊥ = cc in k)
earlier_at (x ∷ path) [] n a b same at there h = let bad : None ≡ Some b = there in absurd (let k : ⊥ = cc in k)
earlier_at (x ∷ path) (y ∷ other) zero a b same at there h =
    inl (subst (λ (u : Step). Precedes u y) (sym (some_step x a at)) (subst (λ (u : Step). Precedes a u) (sym (some_step y b there)) h))
earlier_at (x ∷ path) (y ∷ other) (suc n) a b same at there h =
    let parts = tails x y (take n path) (take n other) same in
    inr (parts.0, earlier_at path other n a b parts.1 at there h)

pub earlier_read : (path other : List Step) (n : ℕ) (d e : Step) → take n path ≡ take n other → n < length path → length path ≡ length other
    → Precedes (get_or path n d) (get_or other n e) → Earlier path other
earlier_read path other n d e same within long h =
    earlier_at path other n (get_or path n d) (get_or other n e) same (slice_get-get_or path n d within) (slice_get-get_or other n e (omega (arith, within, long))) h
