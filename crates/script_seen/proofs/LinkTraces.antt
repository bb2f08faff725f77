-- The traces of the links of a set, link by link.
use Rattle.std.proofs.Common.{◌≡◌, ◌∙◌, ℕ, zero, suc, ◌+◌, ◌<◌, ◌≤◌, Bool, List, [], ◌∷◌, ◌++◌, append-nil, append_assoc, length, map, slice_set, Option, None, Some, arith, refl, sym, ap, subst}
use Rattle.std.specs.Prelude.{slice_get, All}
use Rattle.std.specs.Io.KnownBytes.{Appends}
use Rattle.std.proofs.KnownBytes.{Appends-nil, Appends-trans}
use Rattle.std.proofs.lemmas.List.{length_push}
use Rattle.std.proofs.lemmas.List.Elements.{All-nil, All-cons, All-head, All-tail, All-append}
use Rattle.std.proofs.lemmas.Option.{none-some, same_Some}
use Rattle.turn_code.specs.declared.draft.Draft.{Draft}
use Rattle.plain_laws.specs.Limits.{MOST_PORT, MOST_ENVIRONMENT, MOST_JOURNAL}
use Rattle.actor_machine.specs.Kept.{opened_book}
use Rattle.actor_machine.specs.Ledger.{Ledger, state_of}
use Rattle.script_seen.specs.Traced.{since, told_text, IsAt}
use Rattle.script_seen.specs.TracedKinds.{IsAtStart}
use Rattle.script_seen.specs.TracedGroups.{Reached, reach, IsReached, under_name, links_text, all_reach, AreReached, none_reached, one_reached, IsNewBook, reached_at}
use Rattle.script_seen.specs.TracingGroups.{IsAtLink, AreAtLinks, none_at, one_at}
use Rattle.script_seen.specs.declared.tracing.Tracer.{Tracer}

-- ---- the first links of a set

-- how far each link is traced once the first n links are
abbrev pub some_reach : Draft → ℕ → List Reached → List Ledger → List Reached
some_reach d zero rs bs = rs
some_reach d (suc n) [] bs = []
some_reach d (suc n) (r ∷ rs) [] = []
some_reach d (suc n) (r ∷ rs) (b ∷ bs) = reach d r b ∷ some_reach d n rs bs

abbrev pub some_text : Bool → Draft → ℕ → ℕ → List Reached → List Ledger → List ℕ
some_text every d l zero rs bs = []
some_text every d l (suc n) [] bs = []
some_text every d l (suc n) (r ∷ rs) [] = []
some_text every d l (suc n) (r ∷ rs) (b ∷ bs) = under_name l (told_text every d r.core (since r.place b)) ++ some_text every d (l + 1) n rs bs

abbrev pub AreSomeReached : Draft → ℕ → List Reached → List Ledger → Type 0
AreSomeReached d zero rs bs = Unit {0}
AreSomeReached d (suc n) [] bs = ⊥
AreSomeReached d (suc n) (r ∷ rs) [] = ⊥
AreSomeReached d (suc n) (r ∷ rs) (b ∷ bs) = IsReached d r b × AreSomeReached d n rs bs

-- the links from n on are as far as they were
some_at : (d : Draft) (n : ℕ) (rs : List Reached) (bs : List Ledger) (r : Reached) → slice_get (some_reach d n rs bs) n ≡ Some r → slice_get rs n ≡ Some r
some_at d zero rs bs r h = h
some_at d (suc n) [] bs r h = h
some_at d (suc n) (x ∷ rs) [] r h = absurd (none-some r h)
some_at d (suc n) (x ∷ rs) (b ∷ bs) r h = some_at d n rs bs r h

-- one link more
reached_one : (d : Draft) (n : ℕ) (rs : List Reached) (bs : List Ledger) (r : Reached) (b : Ledger) → slice_get rs n ≡ Some r → slice_get bs n ≡ Some b → IsReached d r b
    → AreSomeReached d n rs bs → AreSomeReached d (suc n) rs bs
reached_one d n [] bs r b at_r at_b is so_far = absurd (none-some r at_r)
reached_one d n (x ∷ rs) [] r b at_r at_b is so_far = absurd (none-some b at_b)
reached_one d zero (x ∷ rs) (y ∷ bs) r b at_r at_b is so_far =
    let R : Reached → Type 0 = λ z. IsReached d z y in
    let B : Ledger → Type 0 = λ z. IsReached d r z in
    (subst R (sym (same_Some x r at_r)) (subst B (sym (same_Some y b at_b)) is), tt {0})
reached_one d (suc n) (x ∷ rs) (y ∷ bs) r b at_r at_b is so_far = (so_far.0, reached_one d n rs bs r b at_r at_b is so_far.1)

set_one : (d : Draft) (n : ℕ) (rs : List Reached) (bs : List Ledger) (r : Reached) (b : Ledger) → slice_get rs n ≡ Some r → slice_get bs n ≡ Some b
    → slice_set (some_reach d n rs bs) n (reach d r b) ≡ some_reach d (suc n) rs bs
set_one d n [] bs r b at_r at_b = absurd (none-some r at_r)
set_one d n (x ∷ rs) [] r b at_r at_b = absurd (none-some b at_b)
set_one d zero (x ∷ rs) (y ∷ bs) r b at_r at_b =
    ap (λ (z : Reached). reach d z b ∷ rs) (sym (same_Some x r at_r)) ∙ ap (λ (z : Ledger). reach d x z ∷ rs) (sym (same_Some y b at_b))
set_one d (suc n) (x ∷ rs) (y ∷ bs) r b at_r at_b = ap (λ (l : List Reached). reach d x y ∷ l) (set_one d n rs bs r b at_r at_b)

text_one : (every : Bool) (d : Draft) (l n : ℕ) (rs : List Reached) (bs : List Ledger) (r : Reached) (b : Ledger) → slice_get rs n ≡ Some r → slice_get bs n ≡ Some b
    → some_text every d l (suc n) rs bs ≡ some_text every d l n rs bs ++ under_name (l + n) (told_text every d r.core (since r.place b))
text_one every d l n [] bs r b at_r at_b = absurd (none-some r at_r)
text_one every d l n (x ∷ rs) [] r b at_r at_b = absurd (none-some b at_b)
text_one every d l zero (x ∷ rs) (y ∷ bs) r b at_r at_b =
    append-nil (under_name l (told_text every d x.core (since x.place y)))
    ∙ (ap (λ (z : Reached). under_name l (told_text every d z.core (since z.place y))) (same_Some x r at_r)
    ∙ (ap (λ (z : Ledger). under_name l (told_text every d r.core (since r.place z))) (same_Some y b at_b)
    ∙ ap (λ (k : ℕ). under_name k (told_text every d r.core (since r.place b))) (let e : l ≡ l + zero = omega arith in e)))
text_one every d l (suc n) (x ∷ rs) (y ∷ bs) r b at_r at_b =
    let this = under_name l (told_text every d x.core (since x.place y)) in
    ap (λ (t : List ℕ). this ++ t) (text_one every d (l + 1) n rs bs r b at_r at_b)
    ∙ (ap (λ (k : ℕ). this ++ (some_text every d (l + 1) n rs bs ++ under_name k (told_text every d r.core (since r.place b)))) (let e : l + 1 + n ≡ l + suc n = omega arith in e)
    ∙ sym (append_assoc this (some_text every d (l + 1) n rs bs) (under_name (l + suc n) (told_text every d r.core (since r.place b)))))

-- the first n links are all links
all_text : (every : Bool) (d : Draft) (l n : ℕ) (rs : List Reached) (bs : List Ledger) → length rs ≤ n → some_text every d l n rs bs ≡ links_text every d l rs bs
all_text every d l zero [] bs within = refl
all_text every d l zero (r ∷ rs) bs within = absurd (omega (arith, within))
all_text every d l (suc n) [] bs within = refl
all_text every d l (suc n) (r ∷ rs) [] within = refl
all_text every d l (suc n) (r ∷ rs) (b ∷ bs) within =
    ap (λ (t : List ℕ). under_name l (told_text every d r.core (since r.place b)) ++ t) (all_text every d (l + 1) n rs bs (omega (arith, within)))

all_there : (d : Draft) (n : ℕ) (rs : List Reached) (bs : List Ledger) → length rs ≤ n → some_reach d n rs bs ≡ all_reach d rs bs
all_there d zero [] bs within = refl
all_there d zero (r ∷ rs) bs within = absurd (omega (arith, within))
all_there d (suc n) [] bs within = refl
all_there d (suc n) (r ∷ rs) [] within = refl
all_there d (suc n) (r ∷ rs) (b ∷ bs) within = ap (λ (l : List Reached). reach d r b ∷ l) (all_there d n rs bs (omega (arith, within)))

all_are : (d : Draft) (n : ℕ) (rs : List Reached) (bs : List Ledger) → length rs ≤ n → length bs ≡ length rs → AreSomeReached d n rs bs → AreReached d rs bs
all_are d n [] [] within many so_far = none_reached
all_are d n [] (b ∷ bs) within many so_far = absurd (omega (arith, many))
all_are d n (r ∷ rs) [] within many so_far = absurd (omega (arith, many))
all_are d zero (r ∷ rs) (b ∷ bs) within many so_far = absurd (omega (arith, within))
all_are d (suc n) (r ∷ rs) (b ∷ bs) within many so_far = one_reached r b rs bs so_far.0 (all_are d n rs bs (omega (arith, within)) (omega (arith, many)) so_far.1)

-- ---- tracers at links

-- the tracer of link n
pub record IsThere (every : Bool) (d : Draft) (rs : List Reached) (n : ℕ) (x : Tracer) : Type 0 where
  pub r : Reached
  pub there : slice_get rs n ≡ Some r
  pub every_is : x.every ≡ every
  pub at : IsAtLink d r x

there_at : (every : Bool) (d : Draft) (rs : List Reached) (ts : List Tracer) (n : ℕ) (x : Tracer) → AreAtLinks every d rs ts → slice_get ts n ≡ Some x → IsThere every d rs n x
there_at every d _ _ n x none_at is = absurd (none-some x is)
there_at every d _ _ zero x (one_at r t rs ts same at rest) is =
    let E : Tracer → Type 0 = λ z. z.every ≡ every in
    let A : Tracer → Type 0 = λ z. IsAtLink d r z in
    record { r = r; there = refl; every_is = subst E (same_Some t x is) same; at = subst A (same_Some t x is) at }
there_at every d _ _ (suc n) x (one_at r t rs ts same at rest) is =
    let w = there_at every d rs ts n x rest is in
    record { r = w.r; there = w.there; every_is = w.every_is; at = w.at }

-- a tracer got further
came_on : (every : Bool) (d : Draft) (rs : List Reached) (ts : List Tracer) (n : ℕ) (r : Reached) (x : Tracer) → x.every ≡ every → IsAtLink d r x
    → AreAtLinks every d rs ts → AreAtLinks every d (slice_set rs n r) (slice_set ts n x)
came_on every d _ _ zero r x same at none_at = none_at
came_on every d _ _ (suc n) r x same at none_at = none_at
came_on every d _ _ zero r x same at (one_at q t rs ts before there rest) = one_at r x rs ts same at rest
came_on every d _ _ (suc n) r x same at (one_at q t rs ts before there rest) = one_at q t (slice_set rs n r) (slice_set ts n x) before there (came_on every d rs ts n r x same at rest)

as_many : (every : Bool) (d : Draft) (rs : List Reached) (ts : List Tracer) → AreAtLinks every d rs ts → length rs ≡ length ts
as_many every d _ _ none_at = refl
as_many every d _ _ (one_at r t rs ts same at rest) = let e = as_many every d rs ts rest in omega (arith, e)

-- ---- a loop over them

-- the first n links are traced
pub record LinksTraced (every : Bool) (d : Draft) (rs : List Reached) (bs : List Ledger) (n : ℕ) (ts : List Tracer) (old new : Option (List ℕ)) : Type 0 where
  pub reached : AreSomeReached d n rs bs
  pub are_at : AreAtLinks every d (some_reach d n rs bs) ts
  pub written : Appends old new (some_text every d 0 n rs bs)

pub no_link : (every : Bool) (d : Draft) (rs : List Reached) (bs : List Ledger) (ts : List Tracer) (old : Option (List ℕ)) → AreAtLinks every d rs ts
    → LinksTraced every d rs bs 0 ts old old
no_link every d rs bs ts old at = record { reached = tt {0}; are_at = at; written = Appends-nil old }

-- the trace of a link by the tracer at its place
abbrev pub TracedOne : Draft → Reached → List Ledger → ℕ → Bool → Tracer → Option (List ℕ) → Option (List ℕ) → Type 0
TracedOne d r bs n every u old new =
    (b : Ledger) × (slice_get bs n ≡ Some b) × IsReached d r b × IsAtLink d (reach d r b) u
    × Appends old new (under_name n (told_text every d r.core (since r.place b)))

pub one_link : (every : Bool) (d : Draft) (rs : List Reached) (bs : List Ledger) (n : ℕ) (ts : List Tracer) (x u : Tracer) (old mid new : Option (List ℕ))
    → slice_get ts n ≡ Some x → u.every ≡ x.every → ((r : Reached) → IsAtLink d r x → TracedOne d r bs n x.every u mid new)
    → LinksTraced every d rs bs n ts old mid → LinksTraced every d rs bs (n + 1) (slice_set ts n u) old new
one_link every d rs bs n ts x u old mid new is same traced so_far =
    let w = there_at every d (some_reach d n rs bs) ts n x so_far.are_at is in
    let r = w.r in
    let at_r : slice_get rs n ≡ Some r = some_at d n rs bs r w.there in
    let one = traced r w.at in
    let b = one.0 in
    let A : List Reached → Type 0 = λ l. AreAtLinks every d l (slice_set ts n u) in
    let T : List ℕ → Type 0 = λ t. Appends old new t in
    let E : Bool → Type 0 = λ e. Appends mid new (under_name n (told_text e d r.core (since r.place b))) in
    let K : ℕ → Type 0 = λ k. Appends mid new (under_name k (told_text every d r.core (since r.place b))) in
    let N : ℕ → Type 0 = λ m. LinksTraced every d rs bs m (slice_set ts n u) old new in
    let zero_on : n ≡ 0 + n = omega arith in
    let next : suc n ≡ n + 1 = omega arith in
    subst N next
    (record {
      reached = reached_one d n rs bs r b at_r one.1 one.2 so_far.reached;
      are_at = subst A (set_one d n rs bs r b at_r one.1) (came_on every d (some_reach d n rs bs) ts n (reach d r b) u (same ∙ w.every_is) one.3 so_far.are_at);
      written = subst T (sym (text_one every d 0 n rs bs r b at_r one.1))
          (Appends-trans old mid new (some_text every d 0 n rs bs) (under_name (0 + n) (told_text every d r.core (since r.place b))) so_far.written
          (subst K zero_on (subst E w.every_is one.4)));
    })

-- all links are traced
pub record AllTraced (every : Bool) (d : Draft) (rs : List Reached) (bs : List Ledger) (ts : List Tracer) (old new : Option (List ℕ)) : Type 0 where
  pub reached : AreReached d rs bs
  pub are_at : AreAtLinks every d (all_reach d rs bs) ts
  pub written : Appends old new (links_text every d 0 rs bs)

pub all_links : (every : Bool) (d : Draft) (rs : List Reached) (bs : List Ledger) (n : ℕ) (first ts : List Tracer) (old new : Option (List ℕ))
    → AreAtLinks every d rs first → length bs ≡ length first → length first ≤ n → LinksTraced every d rs bs n ts old new → AllTraced every d rs bs ts old new
all_links every d rs bs n first ts old new at many is so_far =
    let same : length rs ≡ length first = as_many every d rs first at in
    let within : length rs ≤ n = omega (arith, same, is) in
    let A : List Reached → Type 0 = λ l. AreAtLinks every d l ts in
    let T : List ℕ → Type 0 = λ t. Appends old new t in
    record {
      reached = all_are d n rs bs within (many ∙ sym same) so_far.reached;
      are_at = subst A (all_there d n rs bs within) so_far.are_at;
      written = subst T (all_text every d 0 n rs bs within) so_far.written;
    }

-- ---- the start of a trace

-- a tracer of a new book
pub record IsFresh (every : Bool) (d : Draft) (t : Tracer) : Type 0 where
  pub every_is : t.every ≡ every
  pub start : IsAtStart (opened_book d MOST_PORT MOST_ENVIRONMENT MOST_JOURNAL) t

fresh_at : (every : Bool) (d : Draft) (b : Ledger) (t : Tracer) → IsNewBook d b → IsFresh every d t → IsAtLink d (reached_at b) t
unfolding opened_book
fresh_at every d b t new f =
    let P : Ledger → Type 0 = λ x. IsAt d 0 (state_of x) t in
    subst P (sym new) f.start

pub all_fresh : (every : Bool) (d : Draft) (bs : List Ledger) (ts : List Tracer) → length bs ≡ length ts → All (IsNewBook d) bs → All (IsFresh every d) ts
    → AreAtLinks every d (map reached_at bs) ts
all_fresh every d [] [] many new fresh = none_at
all_fresh every d [] (t ∷ ts) many new fresh = absurd (omega (arith, many))
all_fresh every d (b ∷ bs) [] many new fresh = absurd (omega (arith, many))
all_fresh every d (b ∷ bs) (t ∷ ts) many new fresh =
    let f : IsFresh every d t = All-head (IsFresh every d) t ts fresh in
    one_at (reached_at b) t (map reached_at bs) ts f.every_is (fresh_at every d b t (All-head (IsNewBook d) b bs new) f)
    (all_fresh every d bs ts (omega (arith, many)) (All-tail (IsNewBook d) b bs new) (All-tail (IsFresh every d) t ts fresh))

fresh_more : (every : Bool) (d : Draft) (ts : List Tracer) (t : Tracer) → All (IsFresh every d) ts → IsFresh every d t → All (IsFresh every d) (ts ++ t ∷ [])
fresh_more every d ts t all this = All-append (IsFresh every d) ts (t ∷ []) all (All-cons (IsFresh every d) t [] this (All-nil (IsFresh every d)))

-- n fresh tracers
pub record AreFresh (every : Bool) (d : Draft) (n : ℕ) (ts : List Tracer) : Type 0 where
  pub fresh : All (IsFresh every d) ts
  pub many : length ts ≡ n

pub fresh_begins : (every : Bool) (d : Draft) (ts : List Tracer) → ts ≡ [] → AreFresh every d 0 ts
fresh_begins every d ts is =
    let P : List Tracer → Type 0 = λ l. AreFresh every d 0 l in subst P (sym is) (record { fresh = All-nil (IsFresh every d); many = refl })

pub fresh_on : (every : Bool) (d : Draft) (n : ℕ) (ts us : List Tracer) (t : Tracer) → us ≡ ts ++ t ∷ [] → AreFresh every d n ts → IsFresh every d t
    → AreFresh every d (n + 1) us
fresh_on every d n ts us t is so_far this =
    let P : List Tracer → Type 0 = λ l. AreFresh every d (n + 1) l in
    let long : length (ts ++ t ∷ []) ≡ length ts + 1 = length_push ts t in
    subst P (sym is) (record { fresh = fresh_more every d ts t so_far.fresh this; many = long ∙ ap (λ (m : ℕ). m + 1) so_far.many })
