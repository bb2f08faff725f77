-- Numbers that occur only once: how many there are, and the sum over their items.
use Rattle.std.proofs.Common.{◌≡◌, ℕ, zero, suc, ◌+◌, ◌≤◌, Bool, true, false, ◌||◌, cond, List, [], ◌∷◌, ◌++◌, length, Some, refl, sym, ap, ◌∙◌, arith}
use Rattle.std.specs.Prelude.{slice_get, nat_eq, fold, filter, Contains}
use Rattle.std.specs.List.{sum_by}
use Rattle.std.proofs.lemmas.Bool.{ne_eqb as other_eq}
use Rattle.std.proofs.lemmas.List.Sums.{sum_by-cons, sum_by-append}
use Rattle.sdl_meaning.specs.Code.{add_number}
use Rattle.sdl_emit.specs.Marks.{has}
use Rattle.std.proofs.Math.Bool.{or_assoc, or-false as or_none, or-true as or_some}
use Rattle.sdl_meaning.proofs.Tests.{itself as same_eq}

has_last : (ns : List ℕ) (n i : ℕ) → has (ns ++ n ∷ []) i ≡ has ns i || nat_eq n i
has_last [] n i = or_none (nat_eq n i)
has_last (m ∷ ns) n i = ap (λ b. nat_eq m i || b) (has_last ns n i) ∙ sym (or_assoc (nat_eq m i) (has ns i) (nat_eq n i))

module _ {A : Type 0} (h : A → ℕ) where
  -- The sum over the items whose places, counted from o on, are marked.
  abbrev pub total : (ℕ → Bool) → List A → ℕ → ℕ
  total p [] o = 0
  total p (x ∷ xs) o = cond (p o) (h x) 0 + total p xs (o + 1)

  total_same : (p q : ℕ → Bool) (xs : List A) (o : ℕ) → ((i : ℕ) → o ≤ i → p i ≡ q i) → total p xs o ≡ total q xs o
  total_same p q [] o e = refl
  total_same p q (x ∷ xs) o e =
      let f = ap (λ b. cond b (h x) 0) (e o (omega arith)) in
      let g = total_same p q xs (o + 1) (λ i le. e i (omega (arith, le))) in
      omega (arith, f, g)

  -- One more place is marked.
  total_more : (p q : ℕ → Bool) (xs : List A) (o m n : ℕ) (x : A) → slice_get xs m ≡ Some x → n ≡ o + m → p n ≡ false → q n ≡ true → ((i : ℕ) → (i ≡ n → ⊥) → p i ≡ q i) → total q xs o ≡ total p xs o + h x
  total_more p q [] o m n x at e f g s = absurd (let k : ⊥ = cc in k)
  total_more p q (y ∷ ys) o zero n x at e f g s =
      let here : o ≡ n = omega (arith, e) in
      let a : cond (p o) (h y) 0 ≡ 0 = ap (λ b. cond b (h y) 0) (ap p here ∙ f) in
      let b : cond (q o) (h y) 0 ≡ h y = ap (λ b. cond b (h y) 0) (ap q here ∙ g) in
      let is : y ≡ x = cc in
      let c = ap h is in
      let rest = total_same p q ys (o + 1) (λ i le. s i (λ z. omega (arith, z, le, e))) in
      omega (arith, a, b, c, rest)
  total_more p q (y ∷ ys) o (suc m) n x at e f g s =
      let a = ap (λ b. cond b (h y) 0) (s o (λ z. omega (arith, z, e))) in
      let rest = total_more p q ys (o + 1) m n x at (omega (arith, e)) f g s in
      omega (arith, a, rest)

  pub total_filter : (p : ℕ → Bool) (P : A → Bool) (xs : List A) (o : ℕ) → ((i : ℕ) (x : A) → slice_get xs i ≡ Some x → p (o + i) ≡ P x) → total p xs o ≡ sum_by h (filter P xs)
  total_filter p P [] o e = refl
  total_filter p P (x ∷ xs) o e =
      let z : o + 0 ≡ o = omega arith in
      let here : p o ≡ P x = ap p (sym z) ∙ e 0 x refl in
      let rest = total_filter p P xs (o + 1) (λ i y at. let k : o + 1 + i ≡ o + suc i = omega arith in ap p k ∙ e (suc i) y at) in
      by_test (p o) (P x) here rest
    where
      by_test : (a b : Bool) → a ≡ b → total p xs (o + 1) ≡ sum_by h (filter P xs) → cond a (h x) 0 + total p xs (o + 1) ≡ sum_by h (cond b (x ∷ filter P xs) (filter P xs))
      by_test true true e f = omega (arith, f, sum_by-cons h x (filter P xs))
      by_test true false e f = absurd (let k : ⊥ = cc in k)
      by_test false true e f = absurd (let k : ⊥ = cc in k)
      by_test false false e f = omega (arith, f)

  total_few : (p : ℕ → Bool) (xs : List A) (o : ℕ) → ((x : A) → h x ≤ 1) → total p xs o ≤ length xs
  total_few p [] o e = omega arith
  total_few p (x ∷ xs) o e = by_test (p o) (e x) (total_few p xs (o + 1) e)
    where
      by_test : (b : Bool) → h x ≤ 1 → total p xs (o + 1) ≤ length xs → cond b (h x) 0 + total p xs (o + 1) ≤ suc (length xs)
      by_test true e f = omega (arith, e, f)
      by_test false e f = omega (arith, f)

  total_none : (xs : List A) (o : ℕ) → total (λ i. false) xs o ≡ 0
  total_none [] o = refl
  total_none (x ∷ xs) o = let e = total_none xs (o + 1) in omega (arith, e)

  -- For places of items that occur only once: the sum over the places is the sum over the items.
  module _ (g : ℕ → ℕ) (xs : List A) where
    abbrev Are : List ℕ → Type 0
    Are ns = (n : ℕ) → Contains ns n → (x : A) × (slice_get xs n ≡ Some x) × (g n ≡ h x)

    one_more : (acc : List ℕ) (n : ℕ) (x : A) → slice_get xs n ≡ Some x → g n ≡ h x → sum_by g acc ≡ total (has acc) xs 0 → sum_by g (add_number acc n) ≡ total (has (add_number acc n)) xs 0
    one_more acc n x at e s = by_test (has acc n) refl
      where
        by_test : (b : Bool) → has acc n ≡ b → sum_by g (cond b acc (acc ++ n ∷ [])) ≡ total (has (cond b acc (acc ++ n ∷ []))) xs 0
        by_test true f = s
        by_test false f =
            let more = total_more (has acc) (has (acc ++ n ∷ [])) xs 0 n n x at (omega arith) f
            (has_last acc n n ∙ ap (λ b. has acc n || b) (same_eq n) ∙ or_some (has acc n))
            (λ i ne. sym (has_last acc n i ∙ ap (λ b. has acc i || b) (other_eq n i (λ z. ne (sym z))) ∙ or_none (has acc i))) in
            omega (arith, more, e, s, sum_by-append g acc (n ∷ []), sum_by-cons g n [])

    sums : (ns acc : List ℕ) → Are ns → sum_by g acc ≡ total (has acc) xs 0 → sum_by g (fold add_number acc ns) ≡ total (has (fold add_number acc ns)) xs 0
    sums [] acc are e = e
    sums (n ∷ ns) acc are e =
        let r = are n (0, omega arith, refl) in
        sums ns (add_number acc n) (λ m h. are m (suc h.0, omega (arith, h.1), h.2)) (one_more acc n r.0 r.1 r.2 e)

    pub sum_once : (ns : List ℕ) → Are ns → sum_by g (fold add_number [] ns) ≡ total (has (fold add_number [] ns)) xs 0
    sum_once ns are = sums ns [] are (sym (total_none xs 0))

  pub total_small : (p : ℕ → Bool) (xs : List A) (o : ℕ) → ((x : A) → h x ≤ 1) → total p xs o ≤ length xs
  total_small = total_few

sum_ones : (ns : List ℕ) → sum_by (λ n. 1) ns ≡ length ns
sum_ones [] = refl
sum_ones (n ∷ ns) = let h = sum_ones ns in omega (arith, h, sum_by-cons (λ n. 1) n ns)

-- Places of a list that occur only once are no more than its items.
pub once_few : {A : Type 0} (xs : List A) (ns : List ℕ) → ((n : ℕ) → Contains ns n → (x : A) × (slice_get xs n ≡ Some x)) → length (fold add_number [] ns) ≤ length xs
once_few xs ns are =
    let e = sum_once (λ x. 1) (λ n. 1) xs ns (λ n h. let r = are n h in (r.0, r.1, refl)) in
    let f = total_small (λ x. 1) (has (fold add_number [] ns)) xs 0 (λ x. omega arith) in
    omega (arith, e, f, sum_ones (fold add_number [] ns))
