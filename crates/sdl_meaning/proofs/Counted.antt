-- The code of a piece has as many instructions as its text counts, with each connection that it leads to once.
use Rattle.std.proofs.Common.{◌≡◌, ℕ, zero, suc, ◌+◌, ◌<◌, ◌≤◌, Bool, true, false, cond, ◌||◌, List, [], ◌∷◌, ◌++◌, length, Some, refl, sym, ap, ◌∙◌, subst, arith, length-append}
use Rattle.std.specs.Prelude.{slice_get, get_or, Contains, fold, nat_eq}
use Rattle.std.specs.List.{list_any, sum_by, filter, flat_map}
use Rattle.std.specs.Option.{option_map_or}
use Rattle.std.proofs.lemmas.Bool.Decides.{nat_tests}
use Rattle.std.proofs.lemmas.List.Sums.{sum_by-cons}
use Rattle.sdl_ast.specs.Plain.{falls, PlainConnection}
use Rattle.turn_code.specs.declared.instruction.Instruction.{Instruction}
use Rattle.sdl_tables.specs.Names.{variables_of}
use Rattle.sdl_sound.specs.Joins.{reaches, reached}
use Rattle.sdl_sound.specs.Longest.{Piece, size, piece_size}
use Rattle.sdl_meaning.specs.Outcomes.{Scope}
use Rattle.sdl_meaning.specs.Named.{NamedPiece}
use Rattle.sdl_meaning.specs.Code.{text_at, size_at, joined, add_number, numbers_once, ArePlaced, place_in, text_code, places_code, connections_code, text_place, connections_place, piece_code}
use Rattle.sdl_meaning.proofs.Sizes.{places_size, text_size_is, connections_size}
use Rattle.sdl_meaning.proofs.Acts.{among_by}
use Rattle.sdl_meaning.proofs.Reached.{placed_stands, placed_reached, reached_placed}
use Rattle.sdl_meaning.proofs.Tests.{itself}
use Rattle.std.proofs.lemmas.Bool.{ne_eqb as differ}
use Rattle.std.specs.Cmp.{both_ways as same_tests}
use Rattle.plain_laws.proofs.Truths.{neither_first as or_left, neither_second as or_right}

abbrev pub is_among : List ℕ → ℕ → Bool
is_among ns n = list_any (λ m. nat_eq m n) ns

-- Each number occurs only once.
abbrev pub Once : List ℕ → Type 0
Once [] = Unit {0}
Once (n ∷ ns) = (is_among ns n ≡ false) × Once ns

or_false : (a b : Bool) → a ≡ false → b ≡ false → a || b ≡ false
or_false true b e f = absurd (let k : ⊥ = cc in k)
or_false false b e f = f

other_way : (m n : ℕ) → nat_eq m n ≡ false → nat_eq n m ≡ false
other_way m n e = grind (arith, nat_tests)

not_among_more : (ns : List ℕ) (n m : ℕ) → is_among ns m ≡ false → nat_eq n m ≡ false → is_among (ns ++ n ∷ []) m ≡ false
not_among_more [] n m e f = or_false (nat_eq n m) false f refl
not_among_more (x ∷ ns) n m e f = or_false (nat_eq x m) (is_among (ns ++ n ∷ []) m) (or_left (nat_eq x m) (is_among ns m) e) (not_among_more ns n m (or_right (nat_eq x m) (is_among ns m) e) f)

once_more : (ns : List ℕ) (n : ℕ) → Once ns → is_among ns n ≡ false → Once (ns ++ n ∷ [])
once_more [] n h e = (refl, tt)
once_more (x ∷ ns) n h e =
    (not_among_more ns n x h.0 (other_way x n (or_left (nat_eq x n) (is_among ns n) e)), once_more ns n h.1 (or_right (nat_eq x n) (is_among ns n) e))

once_added : (ns : List ℕ) (n : ℕ) → Once ns → Once (add_number ns n)
once_added ns n h = by_test (is_among ns n) refl
  where
    by_test : (b : Bool) → is_among ns n ≡ b → Once (cond b ns (ns ++ n ∷ []))
    by_test true e = h
    by_test false e = once_more ns n h e

once_folded : (xs acc : List ℕ) → Once acc → Once (fold add_number acc xs)
once_folded [] acc h = h
once_folded (x ∷ xs) acc h = once_folded xs (add_number acc x) (once_added acc x h)

pub numbers_are_once : (xs : List ℕ) → Once (numbers_once xs)
numbers_are_once xs = once_folded xs [] tt

-- ---- sums over numbers, and over the items with these numbers

module _ {A : Type 0} (g : A → ℕ) where
  -- The sum over the items from place i on whose places are among these numbers.
  abbrev picked_from : ℕ → List A → List ℕ → ℕ
  picked_from i [] ns = 0
  picked_from i (x ∷ xs) ns = cond (is_among ns i) (g x) 0 + picked_from (i + 1) xs ns

  picked_none : (xs : List A) (i : ℕ) → picked_from i xs [] ≡ 0
  picked_none [] i = refl
  picked_none (x ∷ xs) i = let h = picked_none xs (i + 1) in omega (arith, h)

  picked_before : (xs : List A) (i n : ℕ) (ns : List ℕ) → n < i → picked_from i xs (n ∷ ns) ≡ picked_from i xs ns
  picked_before [] i n ns lt = refl
  picked_before (x ∷ xs) i n ns lt =
      let e : nat_eq n i ≡ false = differ n i (λ f. omega (arith, lt, f)) in
      let h = picked_before xs (i + 1) n ns (omega (arith, lt)) in
      ap (λ b. cond (b || is_among ns i) (g x) 0 + picked_from (i + 1) xs (n ∷ ns)) e ∙ ap (λ k. cond (is_among ns i) (g x) 0 + k) h

  picked_one : (xs : List A) (i d n : ℕ) (x : A) (ns : List ℕ) → n ≡ i + d → slice_get xs d ≡ Some x → is_among ns n ≡ false → picked_from i xs (n ∷ ns) ≡ g x + picked_from i xs ns
  picked_one [] i d n x ns e at none = absurd (let k : ⊥ = cc in k)
  picked_one (y ∷ xs) i zero n x ns e at none =
      let is : y ≡ x = cc in
      let same : n ≡ i = omega (arith, e) in
      let first : nat_eq n i ≡ true = ap (λ k. nat_eq n k) (sym same) ∙ itself n in
      let second : is_among ns i ≡ false = ap (λ k. is_among ns k) (sym same) ∙ none in
      let h = picked_before xs (i + 1) n ns (omega (arith, same)) in
      let none_here : cond (is_among ns i) (g y) 0 ≡ 0 = ap (λ b. cond b (g y) 0) second in
      ap (λ b. cond (b || is_among ns i) (g y) 0 + picked_from (i + 1) xs (n ∷ ns)) first ∙ omega (arith, h, ap g is, none_here)
  picked_one (y ∷ xs) i (suc d) n x ns e at none =
      let first : nat_eq n i ≡ false = differ n i (λ f. omega (arith, e, f)) in
      let h = picked_one xs (i + 1) d n x ns (omega (arith, e)) at none in
      let a = cond (is_among ns i) (g y) 0 in
      ap (λ b. cond (b || is_among ns i) (g y) 0 + picked_from (i + 1) xs (n ∷ ns)) first ∙ omega (arith, h)

  -- Each number is that of an item, and occurs only once.
  sum_picked : (f : ℕ → ℕ) (xs : List A) (ns : List ℕ) → Once ns → ((n : ℕ) → is_among ns n ≡ true → (x : A) × (slice_get xs n ≡ Some x) × (f n ≡ g x)) → sum_by f ns ≡ picked_from 0 xs ns
  sum_picked f xs [] once there = sym (picked_none xs 0)
  sum_picked f xs (n ∷ ns) once there =
      let r = there n (or_here (nat_eq n n) (is_among ns n) (itself n)) in
      let h = sum_picked f xs ns once.1 (λ m e. there m (or_there (nat_eq n m) (is_among ns m) e)) in
      let k = picked_one xs 0 n n r.0 ns (omega arith) r.1 once.0 in
      omega (arith, sum_by-cons f n ns, h, k, r.2)
    where
      or_here : (a b : Bool) → a ≡ true → a || b ≡ true
      or_here true b e = refl
      or_here false b e = absurd (let k : ⊥ = cc in k)

      or_there : (a b : Bool) → b ≡ true → a || b ≡ true
      or_there true b e = refl
      or_there false b e = e

  -- A test decides whose numbers are there.
  picked_kept : (test : A → Bool) (xs : List A) (i : ℕ) (ns : List ℕ) → ((d : ℕ) (x : A) → slice_get xs d ≡ Some x → is_among ns (i + d) ≡ test x) → picked_from i xs ns ≡ sum_by g (filter test xs)
  picked_kept test [] i ns same = refl
  picked_kept test (x ∷ xs) i ns same =
      let zero_on : i + 0 ≡ i = omega arith in
      let here : is_among ns i ≡ test x = ap (λ k. is_among ns k) (sym zero_on) ∙ same 0 x refl in
      let h = picked_kept test xs (i + 1) ns (λ d y e. let s : i + 1 + d ≡ i + suc d = omega arith in ap (λ k. is_among ns k) s ∙ same (suc d) y e) in
      ap (λ b. cond b (g x) 0 + picked_from (i + 1) xs ns) here ∙ by_test (test x) h
    where
      by_test : (t : Bool) → picked_from (i + 1) xs ns ≡ sum_by g (filter test xs) → cond t (g x) 0 + picked_from (i + 1) xs ns ≡ sum_by g (cond t (x ∷ filter test xs) (filter test xs))
      by_test true h = omega (arith, h, sum_by-cons g x (filter test xs))
      by_test false h = omega (arith, h)

among_there : (ns : List ℕ) (n : ℕ) → Contains ns n → is_among ns n ≡ true
among_there ns n h = by_place ns h.0 h.1 h.2
  where
    by_place : (ns : List ℕ) (k : ℕ) → k < length ns → get_or ns k n ≡ n → is_among ns n ≡ true
    by_place [] k lt e = absurd (omega (arith, lt))
    by_place (m ∷ ns) zero lt e = ap (λ b. b || is_among ns n) (ap (λ m. nat_eq m n) e ∙ itself n)
    by_place (m ∷ ns) (suc k) lt e = last (nat_eq m n) (by_place ns k (omega (arith, lt)) e)
      where
        last : (b : Bool) → is_among ns n ≡ true → b || is_among ns n ≡ true
        last true f = refl
        last false f = f

module _ (c : Scope) (q : Piece) (named : NamedPiece c q) (ns : List ℕ) (placed : ArePlaced c q.text ns) where
  others_size : sum_by (size_at c) ns ≡ sum_by (λ (k : PlainConnection). size (variables_of c.process) k.text) (reached c.process q.text)
  others_size =
      let vs = variables_of c.process in
      let cs = c.process.connections in
      let g = λ (k : PlainConnection). size vs k.text in
      let test = λ (k : PlainConnection). reaches c.process q.text k.name.name in
      let once : Once ns = subst Once (sym placed.once) (numbers_are_once (joined c q.text ++ flat_map (λ n. joined c (text_at c n)) ns)) in
      sum_picked g (size_at c) cs ns once
      (λ n e. let s = placed_stands c named.connections q.text named.text.text ns placed n (among_by ns n e) in
      (s.connection, s.there, ap (λ o. size vs (option_map_or (λ (k : PlainConnection). k.text) o falls)) s.there))
      ∙ picked_kept g test cs 0 ns
      (λ d k e. let z : 0 + d ≡ d = omega arith in
      ap (λ n. is_among ns n) z
      ∙ same_tests (is_among ns d) (test k) (λ t. placed_reached c named.connections q.text named.text.text ns placed d k (among_by ns d t) e)
      (λ t. among_there ns d (reached_placed c named.connections q.text named.text.text ns placed d k e t)))

  -- The code has as many instructions as the text counts.
  pub size_is : (code : List Instruction) → code ≡ piece_code c q ns → length code ≡ piece_size c.process q
  size_is code is =
      let r = connections_place c q in
      let to = place_in c r ns in
      let a = places_code c 0 q.places in
      let b = text_code c to (text_place q) q.text in
      let d = connections_code c to r ns in
      omega (arith, ap length is, length-append a (b ++ d), length-append b d, places_size c 0 q.places, text_size_is c to (text_place q) q.text, connections_size c to r ns, others_size)

  -- The text with its connections is within the limit of a piece.
  pub size_fits : piece_size c.process q ≤ 512 → connections_place c q + sum_by (size_at c) ns ≤ 512
  size_fits h = omega (arith, h, others_size)
