-- The links that may take messages, by place.
use Rattle.std.proofs.Common.{◌≡◌, ℕ, ◌+◌, ◌<◌, ◌||◌, zero, suc, Bool, true, false, List, [], ◌∷◌, ◌++◌, length, take, drop, get_or, refl, sym, ap, ◌∙◌, append_assoc, arith}
use Rattle.std.specs.Prelude.{if◌then◌else◌, slice_get}
use Rattle.std.specs.List.{list_any}
use Rattle.resend_store.specs.declared.messages.Msu.{Msu}
use Rattle.group_changeover.specs.declared.bound.Points.{Points}
use Rattle.link_group.specs.OneLink.{held}
use Rattle.std.proofs.lemmas.List.{drop_more, append-nil}
use Rattle.link_group.specs.declared.link.Link.{Link}
use Rattle.link_group.specs.Moving.{is_open, places_from, eligible_links, is_unbound_on, on_by, holds}

one_by : (b : Bool) (n : ℕ) (ls rest : List ℕ) → (if b then n ∷ rest else rest) ≡ (if b then n ∷ [] else []) ++ rest
one_by true n ls rest = refl
one_by false n ls rest = refl

pub one_place : (may : Link → Bool) (n : ℕ) (k : Link) (ks : List Link) → places_from may n (k ∷ ks) ≡ (if may k then n ∷ [] else []) ++ places_from may (n + 1) ks
unfolding places_from
one_place may n k ks = one_by (may k) n [] (places_from may (n + 1) ks)

pub next_place : (may : Link → Bool) (ks : List Link) (n : ℕ) (k : Link) (ls new whole : List ℕ) (b : Bool) → n < length ks → k ≡ get_or ks n k → b ≡ may k → new ≡ ls ++ (if b then n ∷ [] else [])
    → ls ++ places_from may n (drop n ks) ≡ whole → new ++ places_from may (n + 1) (drop (n + 1) ks) ≡ whole
next_place may ks n k ls new whole b h e test grown is =
    ap (λ (xs : List ℕ). xs ++ places_from may (n + 1) (drop (n + 1) ks)) (grown ∙ ap (λ (c : Bool). ls ++ (if c then n ∷ [] else [])) test)
    ∙ append_assoc ls (if may k then n ∷ [] else []) (places_from may (n + 1) (drop (n + 1) ks))
    ∙ sym (ap (λ (xs : List ℕ). ls ++ xs) (ap (places_from may n) (drop_more ks n k h ∙ ap (λ (x : Link). x ∷ drop (n + 1) ks) (sym e)) ∙ one_place may n k (drop (n + 1) ks))) ∙ is

pub last_place : (failed outage : Bool) (ks : List Link) (n : ℕ) (ls : List ℕ) → n ≡ length ks → ls ++ places_from (is_open failed outage) n (drop n ks) ≡ places_from (is_open failed outage) 0 ks
    → ls ≡ eligible_links failed outage ks
unfolding eligible_links places_from
last_place failed outage ks n ls e is =
    sym (append-nil ls) ∙ sym (ap (λ (xs : List Link). ls ++ places_from (is_open failed outage) n xs) (ap (λ (i : ℕ). drop i ks) e ∙ none ks)) ∙ is
  where
    none : (xs : List Link) → drop (length xs) xs ≡ []
    none [] = refl
    none (x ∷ xs) = none xs

-- ---- whether messages have a selection

or_true : (a b : Bool) → b ≡ true → (a || b) ≡ true
or_true true b e = refl
or_true false b e = e

or_first : (a b : Bool) → a ≡ true → (a || b) ≡ true
or_first a b e = rw e refl

neither : (a b : Bool) → a ≡ false → b ≡ false → (a || b) ≡ false
neither a b p q = rw (p, q) refl

first_not : (a b : Bool) → (a || b) ≡ false → a ≡ false
first_not true b e = let f : true ≡ false = e in cc
first_not false b e = refl

rest_not : (a b : Bool) → (a || b) ≡ false → b ≡ false
rest_not true b e = let f : true ≡ false = e in cc
rest_not false b e = e

any_at : (p : Points) (s : ℕ) (ms : List Msu) (i : ℕ) → on_by p s (slice_get ms i) ≡ true → list_any (is_unbound_on p s) ms ≡ true
any_at p s [] i e = let f : false ≡ true = e in cc
any_at p s (m ∷ ms) zero e = or_first (is_unbound_on p s m) (list_any (is_unbound_on p s) ms) e
any_at p s (m ∷ ms) (suc i) e = or_true (is_unbound_on p s m) (list_any (is_unbound_on p s) ms) (any_at p s ms i e)

none_more : (p : Points) (s : ℕ) (ms : List Msu) (i : ℕ) → on_by p s (slice_get ms i) ≡ false → list_any (is_unbound_on p s) (take i ms) ≡ false → list_any (is_unbound_on p s) (take (suc i) ms) ≡ false
none_more p s [] i e none = none_here i
  where
    none_here : (j : ℕ) → list_any (is_unbound_on p s) (take (suc j) []) ≡ false
    none_here j = refl
none_more p s (m ∷ ms) zero e none = neither (is_unbound_on p s m) false e refl
none_more p s (m ∷ ms) (suc i) e none =
    neither (is_unbound_on p s m) (list_any (is_unbound_on p s) (take (suc i) ms)) (first_not (is_unbound_on p s m) (list_any (is_unbound_on p s) (take i ms)) none)
    (none_more p s ms i e (rest_not (is_unbound_on p s m) (list_any (is_unbound_on p s) (take i ms)) none))

pub held_here : (s : ℕ) (k : Link) (i : ℕ) (b : Bool) → b ≡ true → b ≡ on_by k.points s (slice_get (held k) i) → true ≡ holds s k
unfolding holds
held_here s k i b e is = sym (any_at k.points s (held k) i (sym is ∙ e))

pub held_none : (p : Points) (s : ℕ) (ms : List Msu) (i : ℕ) (b : Bool) → b ≡ false → b ≡ on_by p s (slice_get ms i) → list_any (is_unbound_on p s) (take i ms) ≡ false → list_any (is_unbound_on p s) (take (i + 1) ms) ≡ false
held_none p s ms i b e is none = let step : i + 1 ≡ suc i = omega arith in rw step (none_more p s ms i (sym is ∙ e) none)
