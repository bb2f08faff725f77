-- The limits that transitions pass, and the sizes of the connections that they lead to.
use Rattle.std.proofs.Common.{◌≡◌, ℕ, suc, ◌+◌, ◌<◌, Bool, true, false, ◌||◌, List, [], ◌∷◌, ◌++◌, length, take, map, get_or, refl, ap, sym, ◌∙◌, arith, if◌then◌else◌, inl, inr, Some, cond, true≢false}
use Rattle.std.specs.Prelude.{slice_get, sum_by, filter, nat_lt}
use Rattle.std.specs.List.{list_any}
use Rattle.std.proofs.lemmas.Bool.{cases_Bool, cases_lt, lt-ltb, le-ltb}
use Rattle.std.proofs.lemmas.List.{take_more, map-append, length-take-le}
use Rattle.std.proofs.lemmas.List.Sums.{sum_by-cons}
use Rattle.std.proofs.lemmas.List.Folds.{list_any-append}
use Rattle.std.proofs.Math.Bool.{or-false}
use Rattle.sdl_ast.specs.Plain.{Text, PlainStimulus, PlainConnection, PlainProcess}
use Rattle.sdl_tables.specs.Names.{variables_of}
use Rattle.sdl_sound.specs.Joins.{reaches, reached}
use Rattle.sdl_sound.specs.Longest.{size, Piece, pieces_of, input_piece}
use Rattle.sdl_measures.specs.Measures.{capped, AreMeasures}
use Rattle.sdl_measures.specs.Counting.{measure_at}
use Rattle.sdl_measures.specs.Rows.{marked_from, marked_size, is_long, is_deep, is_busy, stimulus_piece, IsPassed, ArePassed, AllPassed, IsEither}
use Rattle.sdl_measures.specs.declared.measures.Measure.{Measure}
use Rattle.sdl_measures.specs.declared.limits.Passed.{Passed}
use Rattle.sdl_measures.proofs.Joined.{size_at}
use Rattle.plain_laws.proofs.Lists.{mapped_more}

marked_push : (n : ℕ) (bs : List Bool) (b : Bool) (ms : List Measure) → marked_from n (bs ++ b ∷ []) ms ≡ marked_from n bs ms + (if b then (measure_at ms (n + length bs)).size else 0)
marked_push n [] b ms =
    let at : (if b then (measure_at ms n).size else 0) ≡ (if b then (measure_at ms (n + 0)).size else 0) = ap (λ k. if b then (measure_at ms k).size else 0) (omega arith) in
    omega (arith, at)
marked_push n (x ∷ bs) b ms =
    let at : (if b then (measure_at ms (n + 1 + length bs)).size else 0) ≡ (if b then (measure_at ms (n + length (x ∷ bs))).size else 0) = ap (λ k. if b then (measure_at ms k).size else 0) (omega arith) in
    omega (arith, marked_push (n + 1) bs b ms, at)

pub marked_more : (bs : List Bool) (i : ℕ) (b : Bool) (ms : List Measure) → i < length bs → b ≡ get_or bs i b
    → marked_size (take (i + 1) bs) ms ≡ marked_size (take i bs) ms + (if b then (measure_at ms i).size else 0)
marked_more bs i b ms within is =
    let k : 0 + length (take i bs) ≡ i = omega (arith, length-take-le i bs (omega (arith, within))) in
    ap (λ l. marked_from 0 l ms) (take_more bs i b within ∙ ap (λ x. take i bs ++ x ∷ []) (sym is))
    ∙ marked_push 0 (take i bs) b ms
    ∙ ap (λ n. marked_from 0 (take i bs) ms + (if b then (measure_at ms n).size else 0)) k

marked_sum : (test : PlainConnection → Bool) (weight : PlainConnection → ℕ) (cs : List PlainConnection) (n : ℕ) (ms : List Measure)
    → ((i : ℕ) (c : PlainConnection) → slice_get cs i ≡ Some c → (measure_at ms (n + i)).size ≡ capped (weight c))
    → capped (marked_from n (map test cs) ms) ≡ capped (sum_by weight (filter test cs))
marked_sum test weight [] n ms h = refl
marked_sum test weight (c ∷ cs) n ms h =
    let rest = marked_sum test weight cs (n + 1) ms (λ i d there. ap (λ k. (measure_at ms k).size) (omega arith) ∙ h (suc i) d there) in
    let here : (measure_at ms n).size ≡ capped (weight c) = ap (λ k. (measure_at ms k).size) (omega arith) ∙ h 0 c refl in
    elim (cases_Bool (test c)) [
      | inl passes ↦
          let left : marked_from n (map test (c ∷ cs)) ms ≡ (measure_at ms n).size + marked_from (n + 1) (map test cs) ms = ap (λ b. (if b then (measure_at ms n).size else 0) + marked_from (n + 1) (map test cs) ms) passes in
          let right : sum_by weight (filter test (c ∷ cs)) ≡ weight c + sum_by weight (filter test cs) =
          ap (λ b. sum_by weight (cond b (c ∷ filter test cs) (filter test cs))) passes ∙ sum_by-cons weight c (filter test cs) in
          omega (arith, left, right, here, rest)
      | inr fails ↦
          let left : marked_from n (map test (c ∷ cs)) ms ≡ 0 + marked_from (n + 1) (map test cs) ms = ap (λ b. (if b then (measure_at ms n).size else 0) + marked_from (n + 1) (map test cs) ms) fails in
          let right : sum_by weight (filter test (c ∷ cs)) ≡ sum_by weight (filter test cs) = ap (λ b. sum_by weight (cond b (c ∷ filter test cs) (filter test cs))) fails in
          omega (arith, left, right, rest)
    ]

-- The total size of the connections that a text leads to.
pub marked_is : (p : PlainProcess) (t : Text) (marks : List Bool) (ms : List Measure) → AreMeasures p ms → marks ≡ map (λ c. reaches p t c.name.name) p.connections
    → capped (marked_size marks ms) ≡ capped (sum_by (λ c. size (variables_of p) c.text) (reached p t))
marked_is p t marks ms are is =
    ap (λ l. capped (marked_size l ms)) is
    ∙ marked_sum (λ c. reaches p t c.name.name) (λ c. size (variables_of p) c.text) p.connections 0 ms
    (λ i c there. ap (λ k. (measure_at ms k).size) (omega arith) ∙ size_at p ms i c are there)

-- ---- one more piece

any_push : {A : Type 0} (test : A → Bool) (xs : List A) (x : A) (a b c : Bool) → a ≡ list_any test xs → b ≡ test x → c ≡ (a || b) → c ≡ list_any test (xs ++ x ∷ [])
any_push test xs x a b c ha hb hc =
    hc ∙ ap (λ y. y || b) ha ∙ ap (λ y. list_any test xs || y) (hb ∙ sym (or-false (test x))) ∙ sym (list_any-append test xs (x ∷ []))

any_both : {A : Type 0} (test : A → Bool) (xs ys : List A) (a b c : Bool) → a ≡ list_any test xs → b ≡ list_any test ys → c ≡ (a || b) → c ≡ list_any test (xs ++ ys)
any_both test xs ys a b c ha hb hc = hc ∙ ap (λ y. y || b) ha ∙ ap (λ y. list_any test xs || y) hb ∙ sym (list_any-append test xs ys)

-- If no piece of two groups is too long, none of the first group is, and none of the second.
first_short : (a b c : Bool) → c ≡ (a || b) → c ≡ false → a ≡ false
first_short true b c e short = absurd (true≢false (sym e ∙ short))
first_short false b c e short = refl

other_short : (a b c : Bool) → c ≡ (a || b) → c ≡ false → b ≡ false
other_short true b c e short = absurd (true≢false (sym e ∙ short))
other_short false b c e short = sym e ∙ short

pub passed_push : (p : PlainProcess) (qs : List Piece) (q : Piece) (a b c : Passed) → ArePassed p qs a → IsPassed p q b → IsEither a b c → ArePassed p (qs ++ q ∷ []) c
passed_push p qs q a b c h k e = record {
  size = any_push (is_long p) qs q a.size b.size c.size h.size k.size e.size;
  depth = λ short. any_push (is_deep p) qs q a.depth b.depth c.depth (h.depth (first_short a.size b.size c.size e.size short)) k.depth e.depth;
  effects = λ short. any_push (is_busy p) qs q a.effects b.effects c.effects (h.effects (first_short a.size b.size c.size e.size short)) k.effects e.effects;
}

-- If a piece is too long, more pieces change nothing.
pub passed_long : (p : PlainProcess) (qs rs : List Piece) (a : Passed) → a.size ≡ true → ArePassed p qs a → ArePassed p (qs ++ rs) a
passed_long p qs rs a long h = record {
  size = any_both (is_long p) qs rs a.size (list_any (is_long p) rs) a.size h.size refl (long ∙ ap (λ y. y || list_any (is_long p) rs) (sym long));
  depth = λ short. absurd (true≢false (sym long ∙ short));
  effects = λ short. absurd (true≢false (sym long ∙ short));
}

pub passed_both : (p : PlainProcess) (qs rs : List Piece) (a b c : Passed) → ArePassed p qs a → ArePassed p rs b → IsEither a b c → ArePassed p (qs ++ rs) c
passed_both p qs rs a b c h k e = record {
  size = any_both (is_long p) qs rs a.size b.size c.size h.size k.size e.size;
  depth = λ short. any_both (is_deep p) qs rs a.depth b.depth c.depth (h.depth (first_short a.size b.size c.size e.size short)) (k.depth (other_short a.size b.size c.size e.size short)) e.depth;
  effects = λ short. any_both (is_busy p) qs rs a.effects b.effects c.effects (h.effects (first_short a.size b.size c.size e.size short)) (k.effects (other_short a.size b.size c.size e.size short)) e.effects;
}

pub all_push : (ps : List PlainProcess) (p : PlainProcess) (a b c : Passed) → AllPassed ps a → ArePassed p (pieces_of p) b → IsEither a b c → AllPassed (ps ++ p ∷ []) c
all_push ps p a b c h k e = record {
  size = any_push (λ p. list_any (is_long p) (pieces_of p)) ps p a.size b.size c.size h.size k.size e.size;
  depth = λ short. any_push (λ p. list_any (is_deep p) (pieces_of p)) ps p a.depth b.depth c.depth (h.depth (first_short a.size b.size c.size e.size short)) (k.depth (other_short a.size b.size c.size e.size short)) e.depth;
  effects = λ short. any_push (λ p. list_any (is_busy p) (pieces_of p)) ps p a.effects b.effects c.effects (h.effects (first_short a.size b.size c.size e.size short)) (k.effects (other_short a.size b.size c.size e.size short)) e.effects;
}

over_by : (most b : ℕ) → most < 4294967295 → nat_lt most (capped b) ≡ nat_lt most b
over_by most b small = elim (cases_lt most b) [
  | inl more ↦ lt-ltb most (capped b) (omega (arith, more, small)) ∙ sym (lt-ltb most b more)
  | inr less ↦ le-ltb most (capped b) (omega (arith, less)) ∙ sym (le-ltb most b less)
]

-- A capped count is beyond a limit exactly if the count is.
pub over : (most a b : ℕ) → most < 4294967295 → a ≡ capped b → nat_lt most a ≡ nat_lt most b
over most a b small e = ap (nat_lt most) e ∙ over_by most b small

pub mapped_rows : {A B C : Type 0} (f : A → B) (g : B → C) (xs : List A) (i : ℕ) (x : A) → i < length xs → x ≡ get_or xs i x
    → map g (map f (take (i + 1) xs)) ≡ map g (map f (take i xs)) ++ g (f x) ∷ []
mapped_rows f g xs i x within is = ap (map g) (mapped_more f xs i x within is) ∙ map-append g (map f (take i xs)) (f x ∷ [])

-- the pieces of the signals of one INPUT
pub same_pieces : (at : ℕ) (t : Text) (ss : List PlainStimulus) → map input_piece (map (λ s. record { at = at; stimulus = s; text = t }) ss) ≡ map (stimulus_piece t) ss
same_pieces at t [] = refl
same_pieces at t (s ∷ ss) = ap (λ l. stimulus_piece t s ∷ l) (same_pieces at t ss)
