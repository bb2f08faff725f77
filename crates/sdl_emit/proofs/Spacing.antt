-- Connections placed one after another, from the last back to the first.
use Rattle.std.proofs.Common.{◌≡◌, ℕ, zero, suc, ◌+◌, ◌-◌, ◌<◌, ◌≤◌, ⊎_elim, Bool, true, false, cond, List, [], ◌∷◌, length, take, drop, replicate, set, Some, refl, sym, ap, ◌∙◌, arith, get_or-set_same, get_or-set_other}
use Rattle.std.specs.Prelude.{slice_get, get_or, nat_eq, All}
use Rattle.std.specs.List.{sum_by}
use Rattle.std.proofs.lemmas.List.{get_or_default}
use Rattle.std.proofs.lemmas.Bool.{cases_eq}
use Rattle.std.proofs.lemmas.Bool.Decides.{nat_tests}
use Rattle.std.proofs.lemmas.List.Sums.{sum_by-cons}
use Rattle.sdl_meaning.specs.Outcomes.{Scope}
use Rattle.sdl_emit.specs.Scopes.{places_by}
use Rattle.sdl_meaning.specs.Code.{size_at, place_in}

pub zero_at : (count n : ℕ) → get_or (replicate {A = ℕ} count 0) n 0 ≡ 0
zero_at zero n = refl
zero_at (suc k) zero = refl
zero_at (suc k) (suc n) = zero_at k n

drop_one : (ns : List ℕ) (k m : ℕ) → slice_get ns k ≡ Some m → drop k ns ≡ m ∷ drop (suc k) ns
drop_one [] k m e = absurd (let k : ⊥ = cc in k)
drop_one (n ∷ ns) zero m e = let f : n ≡ m = cc in ap (λ n. n ∷ ns) f
drop_one (n ∷ ns) (suc k) m e = drop_one ns k m e

drop_all : (ns : List ℕ) → drop (length ns) ns ≡ []
drop_all [] = refl
drop_all (n ∷ ns) = drop_all ns

none_past : (xs : List ℕ) (k x : ℕ) → slice_get xs k ≡ Some x → k < length xs
none_past [] k x e = absurd (let k : ⊥ = cc in k)
none_past (y ∷ xs) zero x e = omega arith
none_past (y ∷ xs) (suc k) x e = let h = none_past xs k x e in omega (arith, h)

-- The connections from number `left` on have their places, and p is the first of these.
pub record Spaced (c : Scope) (start : ℕ) (ns ps : List ℕ) (p left : ℕ) : Type 0 where
  pub places : (n : ℕ) → places_by ps n ≡ place_in c p (drop left ns) n
  pub rest : p + sum_by (size_at c) (drop left ns) ≡ start + sum_by (size_at c) ns
  pub before : start ≤ p
  pub low : (n : ℕ) → places_by ps n ≤ start + sum_by (size_at c) ns
  pub within : left ≤ length ns

-- The sum up to a place and the sum from it on.
sum_to : (c : Scope) (ns : List ℕ) (k : ℕ) → sum_by (size_at c) (take k ns) + sum_by (size_at c) (drop k ns) ≡ sum_by (size_at c) ns
sum_to c [] zero = refl
sum_to c [] (suc k) = refl
sum_to c (n ∷ ns) zero = omega arith
sum_to c (n ∷ ns) (suc k) = let h = sum_to c ns k in omega (arith, h, sum_by-cons (size_at c) n (take k ns), sum_by-cons (size_at c) n ns)

pub none_spaced : (c : Scope) (start : ℕ) (ns ps : List ℕ) (count : ℕ) → ps ≡ replicate count 0 → Spaced c start ns ps (start + sum_by (size_at c) ns) (length ns)
none_spaced c start ns ps count e =
    let all = drop_all ns in
    let none : sum_by (size_at c) (drop (length ns) ns) ≡ 0 = ap (sum_by (size_at c)) all in
    let at = λ (n : ℕ). ap (λ ps. get_or ps n 0) e ∙ zero_at count n in
    record {
      places = λ n. at n ∙ sym (ap (λ l. place_in c (start + sum_by (size_at c) ns) l n) all);
      rest = omega (arith, none);
      before = omega arith;
      low = λ n. let h = at n in omega (arith, h);
      within = omega arith;
    }

pub one_fits : (c : Scope) (start : ℕ) (ns ps : List ℕ) (p left m : ℕ) → Spaced c start ns ps p left → 0 < left → slice_get ns (left - 1) ≡ Some m → start + size_at c m ≤ p
one_fits c start ns ps p left m h lt at =
    let s : suc (left - 1) ≡ left = omega (arith, lt) in
    let one = ap (sum_by (size_at c)) (drop_one ns (left - 1) m at ∙ ap (λ k. m ∷ drop k ns) s) in
    let all = sum_to c ns (left - 1) in
    omega (arith, h.rest, one, all, sum_by-cons (size_at c) m (drop left ns))

pub one_spaced : (c : Scope) (start : ℕ) (ns ps : List ℕ) (p left m : ℕ) → Spaced c start ns ps p left → 0 < left → slice_get ns (left - 1) ≡ Some m → m < length ps
    → Spaced c start ns (set ps m (p - size_at c m)) (p - size_at c m) (left - 1)
one_spaced c start ns ps p left m h lt at inside =
    record {
      places = λ n. ⊎_elim (λ (e : n ≡ m). this n e) (λ e. other n e) (cases_eq n m);
      rest = omega (arith, h.rest, sums, fits, sum_by-cons (size_at c) m (drop left ns));
      before = omega (arith, fits);
      low = λ n. ⊎_elim (λ (e : n ≡ m). let f = set_here n e in omega (arith, f, h.rest)) (λ e. let f = get_or-set_other ps m n (p - size_at c m) 0 e in let g = h.low n in omega (arith, f, g)) (cases_eq n m);
      within = omega (arith, h.within);
    }
  where
    q : ℕ
    q = p - size_at c m

    fits : start + size_at c m ≤ p
    fits = one_fits c start ns ps p left m h lt at

    dropped : drop (left - 1) ns ≡ m ∷ drop left ns
    dropped = let s : suc (left - 1) ≡ left = omega (arith, lt) in drop_one ns (left - 1) m at ∙ ap (λ k. m ∷ drop k ns) s

    sums : sum_by (size_at c) (drop (left - 1) ns) ≡ sum_by (size_at c) (m ∷ drop left ns)
    sums = ap (sum_by (size_at c)) dropped

    back : q + size_at c m ≡ p
    back = omega (arith, fits)

    set_here : (n : ℕ) → n ≡ m → places_by (set ps m q) n ≡ q
    set_here n e = ap (places_by (set ps m q)) e ∙ get_or-set_same ps m q 0 inside

    this : (n : ℕ) → n ≡ m → places_by (set ps m q) n ≡ place_in c q (drop (left - 1) ns) n
    this n e =
        let t : nat_eq m n ≡ true = grind (arith, nat_tests, e) in
        set_here n e ∙ sym (ap (λ l. place_in c q l n) dropped ∙ ap (λ b. cond b q (place_in c (q + size_at c m) (drop left ns) n)) t)

    other : (n : ℕ) → (n ≡ m → ⊥) → places_by (set ps m q) n ≡ place_in c q (drop (left - 1) ns) n
    other n e =
        get_or-set_other ps m n q 0 e ∙ h.places n ∙ ap (λ p. place_in c p (drop left ns) n) (sym back)
        ∙ sym (ap (λ l. place_in c q l n) dropped ∙ ap (λ b. cond b q (place_in c (q + size_at c m) (drop left ns) n)) (differs (nat_eq m n) refl))
      where
        differs : (b : Bool) → nat_eq m n ≡ b → b ≡ false
        differs true f = absurd (e (let g : n ≡ m = grind (arith, nat_tests) in g))
        differs false f = refl

pub all_low : (c : Scope) (start : ℕ) (ns ps : List ℕ) (p left : ℕ) → Spaced c start ns ps p left → start + sum_by (size_at c) ns ≤ 512 → All (λ p. p ≤ 512) ps
all_low c start ns ps p left h le k d lt = let f = h.low k in let g = get_or_default ps k d 0 lt in omega (arith, f, g, le)
