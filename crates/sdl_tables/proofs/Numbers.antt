-- Numbers of names, and names that are marked by number with a stamp.
use Rattle.std.proofs.Common.{◌≡◌, ℕ, ◌+◌, ◌<◌, ◌≤◌, ◌==◌, Bool, true, false, cond, not, ◌||◌, if◌then◌else◌, List, [], ◌∷◌, ◌++◌, length, map, Option, Some, None, position, bytes_eq, refl, sym, ap, ◌∙◌, subst, arith, get_or, set, zero, suc, true≢false}
use Rattle.std.specs.Option.{option_map_or}
use Rattle.std.specs.List.{flat_map, position_from, AllByRecursion}
use Rattle.std.proofs.lemmas.Iterator.Adapters.{position_from-zero}
use Rattle.std.proofs.lemmas.List.Folds.{list_any-append}
use Rattle.std.proofs.lemmas.List.{get_or-set_same, get_or-set_other, length-set, append-nil}
use Rattle.std.proofs.lemmas.Grind.{flat_map-append}
use Rattle.std.proofs.lemmas.Option.{none-some, same_Some, slice_get_past, slice_get_read}
use Rattle.std.proofs.lemmas.Bool.{or_left, eqb-true, eqb-false, eq-eqb}
use Rattle.std.proofs.lemmas.Slice.Eq.{bytes_eq-Decides}
use Rattle.std.proofs.Math.Bool.{or-true, or-false}
use Rattle.sdl_ast.specs.Spelling.{folded}
use Rattle.sdl_ast.specs.declared.expression.Identifier.{Identifier}
use Rattle.sdl_ast.specs.Plain.{PlainState}
use Rattle.sdl_tables.specs.Names.{same_name, is_in, number_of, is_state, given_to}
use Rattle.sdl_tables.specs.Scopes.{Marks, repeats}
use Rattle.sdl_tables.proofs.Repeats.{repeats-append, if-not}
use Rattle.sdl_tables.specs.Triggers.{trigger_ids, taken_by, IsNumbered, AreNumbered, Keeps, Stamped, AreBelow, Covers}
use Rattle.sdl_tables.specs.declared.triggers.Trigger.{Trigger}
use Rattle.std.specs.Global.{Vec}

-- ---- lists in which each element satisfies a predicate

pub each_as : {X : Type 0} (P Q : X → Type 0) → ((x : X) → P x → Q x) → (xs : List X) → AllByRecursion P xs → AllByRecursion Q xs
each_as P Q turn [] all = tt
each_as P Q turn (x ∷ xs) all = (turn x all.0, each_as P Q turn xs all.1)

pub each_at : {X : Type 0} (P : X → Type 0) (xs : List X) (i : ℕ) (d : X) → AllByRecursion P xs → i < length xs → P (get_or xs i d)
each_at P [] i d all lt = absurd (omega arith)
each_at P (x ∷ xs) zero d all lt = all.0
each_at P (x ∷ xs) (suc i) d all lt = each_at P xs i d all.1 (omega arith)

-- ---- one more element

pub joined_push : {A B : Type 0} (f : A → List B) (xs : List A) (x : A) → flat_map f (xs ++ x ∷ []) ≡ flat_map f xs ++ f x
joined_push f xs x = flat_map-append f xs (x ∷ []) ∙ ap (λ r. flat_map f xs ++ r) (append-nil (f x))

pub repeats_more : (before xs : List Identifier) (id : Identifier)
    → repeats before (xs ++ id ∷ []) ≡ repeats before xs ++ (if is_in (before ++ xs) id.name then id.at ∷ [] else [])
repeats_more before xs id =
    repeats-append before xs (id ∷ [])
    ∙ ap (λ r. repeats before xs ++ r) (append-nil (if is_in (before ++ xs) id.name then id.at ∷ [] else []))

pub marked_more : (before xs : List Identifier) (id : Identifier) (new : Bool) (double : Option ℕ) → new ≡ not (is_in (before ++ xs) id.name)
    → Marks double (repeats before xs ++ (if new then [] else id.at ∷ [])) → Marks double (repeats before (xs ++ id ∷ []))
marked_more before xs id new double fresh m =
    subst (Marks double)
    (ap (λ r. repeats before xs ++ r) (ap (λ b. if b then [] else id.at ∷ []) fresh ∙ if-not (is_in (before ++ xs) id.name) [] (id.at ∷ []))
    ∙ sym (repeats_more before xs id)) m

-- The names that a STATE part adds to a state, given by an equal list.
pub given_as : (of_part : PlainState → List Identifier) (xs : List Identifier) (states : List Identifier) (s : ℕ) (part : PlainState) → xs ≡ of_part part
    → given_to (λ _. xs) states s part ≡ given_to of_part states s part
given_as of_part xs states s part e =
    ap (λ (r : List Identifier). flat_map (λ id. if is_state states s id.name then r else []) part.names) e

-- ---- numbers

-- The number of a name, counted from k.
abbrev from : ℕ → List Identifier → List ℕ → Option ℕ
from k ids x = position_from (λ id. same_name x id.name) k ids

number_from : (ids : List Identifier) (x : List ℕ) → number_of ids x ≡ from 0 ids x
number_from ids x = position_from-zero (λ id. same_name x id.name) ids

kept_by : (b : Bool) (k n : ℕ) (old new : Option ℕ) → (old ≡ Some n → new ≡ Some n) → cond b (Some k) old ≡ Some n → cond b (Some k) new ≡ Some n
kept_by true k n old new more h = h
kept_by false k n old new more h = more h

from-kept : (k : ℕ) (ids : List Identifier) (id : Identifier) (x : List ℕ) (n : ℕ) → from k ids x ≡ Some n → from k (ids ++ id ∷ []) x ≡ Some n
from-kept k [] id x n h = absurd (none-some n h)
from-kept k (y ∷ ys) id x n h =
    kept_by (same_name x y.name) k n (from (k + 1) ys x) (from (k + 1) (ys ++ id ∷ []) x) (from-kept (k + 1) ys id x n) h

-- Appending a name changes no number.
pub numbers_kept : (ids : List Identifier) (id : Identifier) → Keeps ids (ids ++ id ∷ [])
numbers_kept ids id x n h = number_from (ids ++ id ∷ []) x ∙ from-kept 0 ids id x n (sym (number_from ids x) ∙ h)

pub keeps_all : (old mid new : List Identifier) → Keeps old mid → Keeps mid new → Keeps old new
keeps_all old mid new one other x n h = other x n (one x n h)

-- Numbers remain valid.
pub still_numbered : (old new : List Identifier) (ts : List Trigger) → Keeps old new → AllByRecursion (IsNumbered old) ts → AllByRecursion (IsNumbered new) ts
still_numbered old new ts keeps all = each_as (IsNumbered old) (IsNumbered new) (λ t h. keeps t.id.name t.number h) ts all

pub all_numbered : (old new : List Identifier) (vs : List (Vec Trigger)) → Keeps old new → AreNumbered old vs → AreNumbered new vs
all_numbered old new vs keeps all =
    each_as (λ v. AllByRecursion (IsNumbered old) v.items) (λ v. AllByRecursion (IsNumbered new) v.items)
    (λ v h. still_numbered old new v.items keeps h) vs all

new_last : (b : Bool) (k : ℕ) → b ≡ true → cond b (Some k) None ≡ Some (k + 0)
new_last true k h = ap Some (omega arith)
new_last false k h = absurd (true≢false (sym h))

new_by : (b : Bool) (k n : ℕ) (old new : Option ℕ) → (old ≡ None → new ≡ Some n) → cond b (Some k) old ≡ None → cond b (Some k) new ≡ Some n
new_by true k n old new more h = absurd (none-some k (sym h))
new_by false k n old new more h = more h

pub same_self : (x : List ℕ) → same_name x x ≡ true
same_self x = (bytes_eq-Decides (folded x) (folded x)).1 refl

from-new : (k : ℕ) (ids : List Identifier) (id : Identifier) → from k ids id.name ≡ None → from k (ids ++ id ∷ []) id.name ≡ Some (k + length ids)
from-new k [] id h = new_last (same_name id.name id.name) k (same_self id.name)
from-new k (y ∷ ys) id h =
    let more : k + 1 + length ys ≡ k + length (y ∷ ys) = omega arith in
    new_by (same_name id.name y.name) k (k + length (y ∷ ys)) (from (k + 1) ys id.name) (from (k + 1) (ys ++ id ∷ []) id.name)
    (λ e. from-new (k + 1) ys id e ∙ ap Some more) h

-- A new name gets the next number.
pub number_new : (ids : List Identifier) (id : Identifier) → number_of ids id.name ≡ None → number_of (ids ++ id ∷ []) id.name ≡ Some (length ids)
number_new ids id h =
    number_from (ids ++ id ∷ []) id.name
    ∙ (from-new 0 ids id (sym (number_from ids id.name) ∙ h) ∙ ap Some (omega arith))

absent_by : (b : Bool) (k : ℕ) (o : Option ℕ) (rest : Bool) → (o ≡ None → rest ≡ false) → cond b (Some k) o ≡ None → (b || rest) ≡ false
absent_by true k o rest more h = absurd (none-some k (sym h))
absent_by false k o rest more h = more h

absent_from : (k : ℕ) (ids : List Identifier) (x : List ℕ) → from k ids x ≡ None → is_in ids x ≡ false
absent_from k [] x h = refl
absent_from k (y ∷ ys) x h = absent_by (same_name x y.name) k (from (k + 1) ys x) (is_in ys x) (absent_from (k + 1) ys x) h

pub is_absent : (ids : List Identifier) (x : List ℕ) → number_of ids x ≡ None → is_in ids x ≡ false
is_absent ids x h = absent_from 0 ids x (sym (number_from ids x) ∙ h)

bound_by : (b : Bool) (k n bound : ℕ) (o : Option ℕ) → k < bound → (o ≡ Some n → (k ≤ n) × (n < bound)) → cond b (Some k) o ≡ Some n → (k ≤ n) × (n < bound)
bound_by true k n bound o lt more h = let e : k ≡ n = same_Some k n h in (omega arith, omega arith)
bound_by false k n bound o lt more h = more h

from-bound : (k : ℕ) (ids : List Identifier) (x : List ℕ) (n : ℕ) → from k ids x ≡ Some n → (k ≤ n) × (n < k + length ids)
from-bound k [] x n h = absurd (none-some n h)
from-bound k (y ∷ ys) x n h =
    bound_by (same_name x y.name) k n (k + length (y ∷ ys)) (from (k + 1) ys x) (omega arith)
    (λ e. let r = from-bound (k + 1) ys x n e in (omega (arith, r.0), omega (arith, r.1))) h

pub number_within : (ids : List Identifier) (x : List ℕ) (n : ℕ) → number_of ids x ≡ Some n → n < length ids
number_within ids x n h = let r = from-bound 0 ids x n (sym (number_from ids x) ∙ h) in omega (arith, r.1)

-- Two names with one number.
alike_by : (b c : Bool) (k n m : ℕ) (x y z : List ℕ) (o q : Option ℕ) → same_name x z ≡ b → same_name y z ≡ c → n ≡ m
    → ((i : ℕ) → o ≡ Some i → k < i) → ((i : ℕ) → q ≡ Some i → k < i)
    → (o ≡ Some n → q ≡ Some m → folded x ≡ folded y)
    → cond b (Some k) o ≡ Some n → cond c (Some k) q ≡ Some m → folded x ≡ folded y
alike_by true true k n m x y z o q e f same late later more h g =
    (bytes_eq-Decides (folded x) (folded z)).0 e ∙ sym ((bytes_eq-Decides (folded y) (folded z)).0 f)
alike_by true false k n m x y z o q e f same late later more h g =
    let here : k ≡ n = same_Some k n h in absurd (omega (arith, later m g))
alike_by false true k n m x y z o q e f same late later more h g =
    let here : k ≡ m = same_Some k m g in absurd (omega (arith, late n h))
alike_by false false k n m x y z o q e f same late later more h g = more h g

from-alike : (k : ℕ) (ids : List Identifier) (x y : List ℕ) (n m : ℕ) → n ≡ m → from k ids x ≡ Some n → from k ids y ≡ Some m → folded x ≡ folded y
from-alike k [] x y n m same h g = absurd (none-some n h)
from-alike k (z ∷ zs) x y n m same h g =
    alike_by (same_name x z.name) (same_name y z.name) k n m x y z.name (from (k + 1) zs x) (from (k + 1) zs y) refl refl same
    (λ i e. let r = from-bound (k + 1) zs x i e in omega (arith, r.0))
    (λ i e. let r = from-bound (k + 1) zs y i e in omega (arith, r.0))
    (from-alike (k + 1) zs x y n m same) h g

same_by : (ids : List Identifier) (x y : List ℕ) (n m : ℕ) → number_of ids x ≡ Some n → number_of ids y ≡ Some m
    → (b c : Bool) → (m == n) ≡ b → same_name y x ≡ c → b ≡ c
same_by ids x y n m h g true true e f = refl
same_by ids x y n m h g false false e f = refl
same_by ids x y n m h g true false e f =
    let one = from-alike 0 ids y x m n (eqb-true m n e) (sym (number_from ids y) ∙ g) (sym (number_from ids x) ∙ h) in
    absurd (true≢false (sym ((bytes_eq-Decides (folded y) (folded x)).1 one) ∙ f))
same_by ids x y n m h g false true e f =
    let one : folded y ≡ folded x = (bytes_eq-Decides (folded y) (folded x)).0 f in
    let both : number_of ids y ≡ number_of ids x = ap (λ z. position (λ id. bytes_eq z (folded id.name)) ids) one in
    absurd (eqb-false m n e (same_Some m n (sym g ∙ (both ∙ h))))

-- Two names are the same exactly if their numbers are equal.
pub same_number : (ids : List Identifier) (x y : List ℕ) (n m : ℕ) → number_of ids x ≡ Some n → number_of ids y ≡ Some m → (m == n) ≡ same_name y x
same_number ids x y n m h g = same_by ids x y n m h g (m == n) (same_name y x) refl refl

-- ---- stamps

one_more : (before : List Identifier) (id : Identifier) (x : List ℕ) → is_in (before ++ id ∷ []) x ≡ (is_in before x || same_name x id.name)
one_more before id x =
    list_any-append (λ y. same_name x y.name) before (id ∷ [])
    ∙ ap (λ r. is_in before x || r) (or-false (same_name x id.name))

stamped_by : (names before : List Identifier) (seen : List ℕ) (stamp : ℕ) (t : Trigger) (x : List ℕ) (m : ℕ)
    → (get_or seen m 0 == stamp) ≡ is_in before x → t.number < length seen
    → (b : Bool) → (m == t.number) ≡ b → b ≡ same_name x t.id.name
    → (get_or (set seen t.number stamp) m 0 == stamp) ≡ is_in (before ++ t.id ∷ []) x
stamped_by names before seen stamp t x m old lt true e s =
    let same : m ≡ t.number = eqb-true m t.number e in
    let now : get_or (set seen t.number stamp) m 0 ≡ stamp =
    ap (λ i. get_or (set seen t.number stamp) i 0) same ∙ get_or-set_same seen t.number stamp 0 lt in
    eq-eqb _ stamp now
    ∙ (sym (or-true (is_in before x)) ∙ (ap (λ r. is_in before x || r) s ∙ sym (one_more before t.id x)))
stamped_by names before seen stamp t x m old lt false e s =
    ap (λ v. v == stamp) (get_or-set_other seen t.number m stamp 0 (eqb-false m t.number e))
    ∙ (old ∙ (sym (or-false (is_in before x)) ∙ (ap (λ r. is_in before x || r) s ∙ sym (one_more before t.id x))))

-- Marks one more name.
pub stamped_more : (names before : List Identifier) (seen : List ℕ) (stamp : ℕ) (t : Trigger) → Stamped names seen stamp before → IsNumbered names t
    → Stamped names (set seen t.number stamp) stamp (before ++ t.id ∷ [])
stamped_more names before seen stamp t old numbered =
    let within = number_within names t.id.name t.number numbered in
    let lt : t.number < length seen = omega (arith, within, old.count) in
    record {
      count = old.count ∙ sym (length-set seen t.number stamp);
      same = λ x m h. stamped_by names before seen stamp t x m (old.same x m h) lt (m == t.number) refl (same_number names t.id.name x t.number m numbered h);
    }

below_by : (seen : List ℕ) (i v bound n : ℕ) → get_or seen n 0 < bound → v < bound → i < length seen → (b : Bool) → (n == i) ≡ b
    → get_or (set seen i v) n 0 < bound
below_by seen i v bound n old lt within true e =
    let same : n ≡ i = eqb-true n i e in
    let now : get_or (set seen i v) n 0 ≡ v = ap (λ k. get_or (set seen i v) k 0) same ∙ get_or-set_same seen i v 0 within in
    omega arith
below_by seen i v bound n old lt within false e =
    let now : get_or (set seen i v) n 0 ≡ get_or seen n 0 = get_or-set_other seen i n v 0 (eqb-false n i e) in omega arith

pub below_more : (seen : List ℕ) (i v bound : ℕ) → AreBelow seen bound → v < bound → i < length seen → AreBelow (set seen i v) bound
below_more seen i v bound old lt within n = below_by seen i v bound n (old n) lt within (n == i) refl

not_equal : (m n : ℕ) → m < n → (b : Bool) → (m == n) ≡ b → (m == n) ≡ false
not_equal m n lt true e = let same : m ≡ n = eqb-true m n e in absurd (omega arith)
not_equal m n lt false e = e

-- With a new stamp, no name is marked.
pub stamped_fresh : (names : List Identifier) (seen : List ℕ) (stamp : ℕ) → AreBelow seen stamp → length names ≡ length seen → Stamped names seen stamp []
stamped_fresh names seen stamp below count = record {
  count = count;
  same = λ x n h. not_equal (get_or seen n 0) stamp (below n) (get_or seen n 0 == stamp) refl;
}

-- ---- the STATE part with a number

pub taken_past : (parts : List (Vec Trigger)) (n : ℕ) → length parts ≤ n → taken_by parts n ≡ []
taken_past parts n past = ap (λ o. option_map_or trigger_ids o []) (slice_get_past parts n past)

pub taken_at : (parts : List (Vec Trigger)) (n : ℕ) (v : Vec Trigger) → n < length parts → v ≡ get_or parts n v → taken_by parts n ≡ trigger_ids v
taken_at parts n v lt is = ap (λ o. option_map_or trigger_ids o []) (slice_get_read parts (length parts) n v refl lt is)

pub numbered_in : (names : List Identifier) (parts : List (Vec Trigger)) (n : ℕ) (v : Vec Trigger) (ts : List Trigger) → n < length parts → v ≡ get_or parts n v → ts ≡ v.items
    → AreNumbered names parts → AllByRecursion (IsNumbered names) ts
numbered_in names parts n v ts lt is items all =
    subst (AllByRecursion (IsNumbered names)) (sym items)
    (subst (λ (w : Vec Trigger). AllByRecursion (IsNumbered names) w.items) (sym is) (each_at (λ (w : Vec Trigger). AllByRecursion (IsNumbered names) w.items) parts n v all lt))

-- ---- names that occurred before

pub is_in-append : (xs ys : List Identifier) (x : List ℕ) → is_in (xs ++ ys) x ≡ (is_in xs x || is_in ys x)
is_in-append xs ys x = list_any-append (λ y. same_name x y.name) xs ys

both_in : (b c : Bool) → (c ≡ true → b ≡ true) → (b || c) ≡ b
both_in true c h = refl
both_in false true h = sym (h refl)
both_in false false h = refl

pub covers_last : (before ids : List Identifier) → Covers (before ++ ids) ids
covers_last before ids x h = is_in-append before ids x ∙ (ap (λ b. is_in before x || b) h ∙ or-true (is_in before x))

-- If all names occurred before, all of them are repeated.
pub repeats_covered : (before ids : List Identifier) → Covers before ids → repeats before ids ≡ map (λ id. id.at) ids
repeats_covered before [] covers = refl
repeats_covered before (id ∷ ids) covers =
    let here : is_in before id.name ≡ true = covers id.name (or_left (same_name id.name id.name) (is_in ids id.name) (same_self id.name)) in
    let rest : Covers (before ++ id ∷ []) ids = λ x h.
    is_in-append before (id ∷ []) x
    ∙ or_left (is_in before x) (is_in (id ∷ []) x) (covers x (ap (λ b. same_name x id.name || b) h ∙ or-true (same_name x id.name))) in
    ap (λ b. (if b then id.at ∷ [] else []) ++ repeats (before ++ id ∷ []) ids) here
    ∙ ap (λ r. id.at ∷ r) (repeats_covered (before ++ id ∷ []) ids rest)

-- If all names occurred before, their marks are complete already.
pub stamped_covered : (names before ids : List Identifier) (seen : List ℕ) (stamp : ℕ) → Stamped names seen stamp before → Covers before ids
    → Stamped names seen stamp (before ++ ids)
stamped_covered names before ids seen stamp old covers = record {
  count = old.count;
  same = λ x n h. old.same x n h ∙ sym (is_in-append before ids x ∙ both_in (is_in before x) (is_in ids x) (covers x));
}
