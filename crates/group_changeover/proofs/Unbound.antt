-- Messages without those that are bound to a link.
use Rattle.std.proofs.Common.{◌≡◌, ℕ, ◌+◌, Bool, true, false, not, cond, List, [], ◌∷◌, ◌++◌, length, take, drop, refl, sym, ap, ◌∙◌}
use Rattle.std.specs.Prelude.{All, filter, ◌&&◌}
use Rattle.std.specs.List.{list_any}
use Rattle.std.proofs.lemmas.List.{take-append-drop}
use Rattle.std.proofs.lemmas.List.Elements.{filter-append, All-nil, All-cons, All-head, All-tail}
use Rattle.std.proofs.lemmas.List.Filters.{length-filter_both}
use Rattle.plain_laws.proofs.Truths.{neither_first, neither_second}
use Rattle.resend_store.specs.declared.messages.Msu.{Msu}
use Rattle.group_changeover.specs.declared.bound.Points.{Points}
use Rattle.group_changeover.specs.Bound.{is_bound, unbound}
use Rattle.group_changeover.specs.Sharing.{is_on, of}

abbrev pub IsUnbound : Points → Msu → Type 0
IsUnbound p m = is_bound p m ≡ false

pub unbound-nil : (p : Points) → unbound p [] ≡ []
unfolding unbound
unbound-nil p = refl

pub unbound-append : (p : Points) (xs ys : List Msu) → unbound p (xs ++ ys) ≡ unbound p xs ++ unbound p ys
unfolding unbound
unbound-append p xs ys = filter-append (λ m. not (is_bound p m)) xs ys

pub unbound-bound : (p : Points) (m : Msu) (ms : List Msu) → is_bound p m ≡ true → unbound p (m ∷ ms) ≡ unbound p ms
unfolding unbound
unbound-bound p m ms e = ap (λ (b : Bool). cond (not b) (m ∷ filter (λ x. not (is_bound p x)) ms) (filter (λ x. not (is_bound p x)) ms)) e

pub unbound-other : (p : Points) (m : Msu) (ms : List Msu) → is_bound p m ≡ false → unbound p (m ∷ ms) ≡ m ∷ unbound p ms
unfolding unbound
unbound-other p m ms e = ap (λ (b : Bool). cond (not b) (m ∷ filter (λ x. not (is_bound p x)) ms) (filter (λ x. not (is_bound p x)) ms)) e

pub unbound-one : (p : Points) (m : Msu) → is_bound p m ≡ true → unbound p (m ∷ []) ≡ []
unbound-one p m e = unbound-bound p m [] e ∙ unbound-nil p

pub unbound-all : (p : Points) (ms : List Msu) → All (IsUnbound p) ms → unbound p ms ≡ ms
unbound-all p [] all = unbound-nil p
unbound-all p (m ∷ ms) all =
    unbound-other p m ms (All-head (IsUnbound p) m ms all) ∙ ap (λ (xs : List Msu). m ∷ xs) (unbound-all p ms (All-tail (IsUnbound p) m ms all))

one_by : (p : Points) (m : Msu) (xs : List Msu) (b : Bool) → is_bound p m ≡ b → All (IsUnbound p) xs → All (IsUnbound p) (cond (not b) (m ∷ xs) xs)
one_by p m xs true e all = all
one_by p m xs false e all = All-cons (IsUnbound p) m xs e all

pub all-unbound : (p : Points) (ms : List Msu) → All (IsUnbound p) (unbound p ms)
unfolding unbound
all-unbound p [] = All-nil (IsUnbound p)
all-unbound p (m ∷ ms) = one_by p m (unbound p ms) (is_bound p m) refl (all-unbound p ms)

pub unbound-twice : (p : Points) (ms : List Msu) → unbound p (unbound p ms) ≡ unbound p ms
unbound-twice p ms = unbound-all p (unbound p ms) (all-unbound p ms)

-- if bound messages are removed only from index n on, the unbound messages stay the same
pub unbound-behind : (p : Points) (n : ℕ) (ms : List Msu) → unbound p (take n ms ++ unbound p (drop n ms)) ≡ unbound p ms
unbound-behind p n ms =
    unbound-append p (take n ms) (unbound p (drop n ms)) ∙ ap (λ (xs : List Msu). unbound p (take n ms) ++ xs) (unbound-twice p (drop n ms))
    ∙ sym (unbound-append p (take n ms) (drop n ms)) ∙ ap (unbound p) (take-append-drop n ms)

-- the bound and the unbound messages are all messages
pub both : (p : Points) (ms : List Msu) → length (filter (is_bound p) ms) + length (unbound p ms) ≡ length ms
unfolding unbound
both p ms = length-filter_both (is_bound p) (λ m. not (is_bound p m)) (λ m. refl) ms

on_by : (p : Points) (s : ℕ) (m : Msu) (xs : List Msu) (b c : Bool) → b ≡ is_bound p m → c ≡ is_on s m → (not b && c) ≡ false → of s xs ≡ [] → of s (cond (not b) (m ∷ xs) xs) ≡ []
unfolding of
on_by p s m xs true c e f none rest = rest
on_by p s m xs false true e f none rest = let g : true ≡ false = none in cc
on_by p s m xs false false e f none rest = ap (λ (b : Bool). cond b (m ∷ filter (is_on s) xs) (filter (is_on s) xs)) (sym f) ∙ rest

pub none-of : (p : Points) (s : ℕ) (ms : List Msu) → list_any (λ m. not (is_bound p m) && is_on s m) ms ≡ false → of s (unbound p ms) ≡ []
unfolding unbound of
none-of p s [] e = refl
none-of p s (m ∷ ms) e =
    let here : Bool = not (is_bound p m) && is_on s m in
    let rest : Bool = list_any (λ x. not (is_bound p x) && is_on s x) ms in
    on_by p s m (unbound p ms) (is_bound p m) (is_on s m) refl refl (neither_first here rest e) (none-of p s ms (neither_second here rest e))
