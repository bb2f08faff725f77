-- The run of a piece is the meaning of its transition.
use Rattle.std.proofs.Common.{◌≡◌, ℕ, zero, suc, ◌+◌, ◌-◌, ◌<◌, ◌≤◌, ◌||◌, Bool, true, false, cond, List, [], ◌∷◌, ◌++◌, length, Option, refl, sym, subst, arith}
use Rattle.std.specs.Prelude.{Contains, get_or, fold, nat_eq}
use Rattle.std.specs.List.{list_any, flat_map}
use Rattle.std.proofs.lemmas.Bool.Decides.{nat_tests}
use Rattle.std.proofs.lemmas.List.Elements.{Contains-append_left, Contains-append_right, Contains-push}
use Rattle.sdl_ast.specs.declared.expression.Identifier.{Identifier}
use Rattle.sdl_ast.specs.Plain.{Text}
use Rattle.turn_code.specs.declared.input.Input.{Input}
use Rattle.turn_code.specs.declared.instruction.Instruction.{Instruction}
use Rattle.turn_code.specs.Run as run
use Rattle.turn_code.specs.Run.{Progress, exec, ended, got_stuck, begun}
use Rattle.sdl_sound.specs.Longest.{Piece, piece_budget}
use Rattle.sdl_meaning.specs.Act.{act, join_in, take_places, ran, Act}
use Rattle.sdl_meaning.specs.Outcomes.{Scope, Outcome, goes_on, over, at_end, in_trouble, then_do}
use Rattle.sdl_meaning.specs.Named.{NamedPiece, IsSentTo, AnswersSenders}
use Rattle.sdl_meaning.specs.Code.{text_code, places_code, text_at, size_at, joined, add_number, numbers_once, ArePlaced, place_in, connections_code, text_place, connections_place, piece_code}
use Rattle.sdl_meaning.proofs.Sizes.{places_size, text_size_is}
use Rattle.sdl_meaning.proofs.Runs.{Does, bind, places_do}
use Rattle.sdl_meaning.proofs.RunParts.{HasAt, has_front, has_back, has_all}
use Rattle.sdl_meaning.proofs.Costs.{cost_by}
use Rattle.sdl_meaning.proofs.Choices.{IsOver, over_bind}
use Rattle.sdl_meaning.proofs.Branches.{act_over, text_does}
use Rattle.sdl_meaning.proofs.Follows.{follow_over, leads_on}
use Rattle.sdl_meaning.proofs.Within.{piece_cost}
use Rattle.std.proofs.lemmas.Bool.{eqb-true as same_number}

-- ---- lists of numbers, each only once

pub among_by : (ns : List ℕ) (n : ℕ) → list_any (λ m. nat_eq m n) ns ≡ true → Contains ns n
among_by [] n e = absurd (let k : ⊥ = cc in k)
among_by (m ∷ ns) n e = by_test (nat_eq m n) refl e (among_by ns n)
  where
    by_test : (b : Bool) → nat_eq m n ≡ b → b || list_any (λ m. nat_eq m n) ns ≡ true → (list_any (λ m. nat_eq m n) ns ≡ true → Contains ns n) → Contains (m ∷ ns) n
    by_test true f e rest = (0, omega arith, same_number m n f)
    by_test false f e rest = let r = rest e in (suc r.0, omega (arith, r.1), r.2)

-- The added number is in the list, and so are those before it.
added_there : (ns : List ℕ) (n : ℕ) → Contains (add_number ns n) n
added_there ns n = by_test (list_any (λ m. nat_eq m n) ns) refl
  where
    by_test : (b : Bool) → list_any (λ m. nat_eq m n) ns ≡ b → Contains (cond b ns (ns ++ n ∷ [])) n
    by_test true e = among_by ns n e
    by_test false e = Contains-push ns n

added_stays : (ns : List ℕ) (n m : ℕ) → Contains ns m → Contains (add_number ns n) m
added_stays ns n m h = by_test (list_any (λ m. nat_eq m n) ns)
  where
    by_test : (b : Bool) → Contains (cond b ns (ns ++ n ∷ [])) m
    by_test true = h
    by_test false = Contains-append_left ns (n ∷ []) m h

fold_stays : (xs acc : List ℕ) (m : ℕ) → Contains acc m → Contains (fold add_number acc xs) m
fold_stays [] acc m h = h
fold_stays (x ∷ xs) acc m h = fold_stays xs (add_number acc x) m (added_stays acc x m h)

fold_there : (xs acc : List ℕ) (m k : ℕ) → k < length xs → get_or xs k m ≡ m → Contains (fold add_number acc xs) m
fold_there [] acc m k h e = absurd (omega arith)
fold_there (x ∷ xs) acc m zero h e = subst (λ m. Contains (fold add_number acc (x ∷ xs)) m) e (fold_stays xs (add_number acc x) x (added_there acc x))
fold_there (x ∷ xs) acc m (suc k) h e = fold_there xs (add_number acc x) m k (omega arith) e

pub once_there : (xs : List ℕ) (m : ℕ) → Contains xs m → Contains (numbers_once xs) m
once_there xs m h = fold_there xs [] m h.0 h.1 h.2

flat_at : (f : ℕ → List ℕ) (ns : List ℕ) (k n m : ℕ) → k < length ns → get_or ns k n ≡ n → Contains (f n) m → Contains (flat_map f ns) m
flat_at f [] k n m h e c = absurd (omega arith)
flat_at f (x ∷ ns) zero n m h e c = Contains-append_left (f x) (flat_map f ns) m (subst (λ x. Contains (f x) m) (sym e) c)
flat_at f (x ∷ ns) (suc k) n m h e c = Contains-append_right (f x) (flat_map f ns) m (flat_at f ns k n m (omega arith) e c)

pub contains_flat : (f : ℕ → List ℕ) (ns : List ℕ) (n m : ℕ) → Contains ns n → Contains (f n) m → Contains (flat_map f ns) m
contains_flat f ns n m h c = flat_at f ns h.0 n m h.1 h.2 c

module _ (c : Scope) (t : Text) (ns : List ℕ) (placed : ArePlaced c t ns) where
  -- The connections that the text joins are placed.
  pub joined_placed : (m : ℕ) → Contains (joined c t) m → Contains ns m
  joined_placed m h =
      let others = flat_map (λ n. joined c (text_at c n)) ns in
      subst (λ l. Contains l m) (sym placed.once) (once_there (joined c t ++ others) m (Contains-append_left (joined c t) others m h))

  -- The connections that a placed one joins are placed.
  pub placed_closed : (n m : ℕ) → Contains ns n → Contains (joined c (text_at c n)) m → Contains ns m
  placed_closed n m there h =
      let others = flat_map (λ n. joined c (text_at c n)) ns in
      subst (λ l. Contains l m) (sym placed.once) (once_there (joined c t ++ others) m (Contains-append_right (joined c t) others m (contains_flat (λ n. joined c (text_at c n)) ns n m there h)))

-- ---- the run of a piece

pub tail_contains : (m : ℕ) (ms : List ℕ) (n : ℕ) → nat_eq m n ≡ false → Contains (m ∷ ms) n → Contains ms n
tail_contains m ms n e h = by_place h.0 h.1 h.2
  where
    by_place : (k : ℕ) → k < length (m ∷ ms) → get_or (m ∷ ms) k n ≡ n → Contains ms n
    by_place zero lt f = absurd (let g : m ≡ n = f in differs g)
      where
        differs : m ≡ n → ⊥
        differs g = grind (arith, nat_tests, e, g)
    by_place (suc k) lt f = (k, omega (arith, lt), f)

-- The code of each connection is at its place.
pub connection_stands : (c : Scope) (code : List Instruction) (to : ℕ → ℕ) (ns : List ℕ) (p n : ℕ) → HasAt code p (connections_code c to p ns) → Contains ns n
    → HasAt code (place_in c p ns n) (text_code c to (place_in c p ns n) (text_at c n))
connection_stands c code to [] p n has h = absurd (omega (arith, h.1))
connection_stands c code to (m ∷ ms) p n has h =
    let a = text_code c to p (text_at c m) in
    let q = p + size_at c m in
    let b = connections_code c to q ms in
    let len : p + length a ≡ q = omega (arith, text_size_is c to p (text_at c m)) in
    by_test (nat_eq m n) refl (has_front code p a b has) (λ h. connection_stands c code to ms q n (has_back code p a b q len has) h)
  where
    by_test : (t : Bool) → nat_eq m n ≡ t → HasAt code p (text_code c to p (text_at c m))
        → (Contains ms n → HasAt code (place_in c (p + size_at c m) ms n) (text_code c to (place_in c (p + size_at c m) ms n) (text_at c n)))
        → HasAt code (cond t p (place_in c (p + size_at c m) ms n)) (text_code c to (cond t p (place_in c (p + size_at c m) ms n)) (text_at c n))
    by_test true e here there = subst (λ n. HasAt code p (text_code c to p (text_at c n))) (same_number m n e) here
    by_test false e here there = there (tail_contains m ms n e h)

-- A part that is over within n instructions is over in a run of n.
over_run : (inp : Input) (code : List Instruction) (s : Progress) (n end : ℕ) (o : Outcome (Unit {0})) → s.count ≡ 0 → IsOver o → cost_by o ≤ n → Does inp code 0 [] s end (λ _. []) o → exec code inp n 0 [] s ≡ ran o
over_run inp code s n end (goes_on x v) zero_at h le d = absurd h
over_run inp code s n end (over (at_end e) v) zero_at h le d =
    let a = d (n - v.count) in
    let j : a.0 ≡ n = omega (arith, a.1, zero_at, le) in
    subst (λ m. exec code inp m 0 [] s ≡ ended e v) j a.2
over_run inp code s n end (over (in_trouble t) v) zero_at h le d =
    let a = d (n - v.count) in
    let j : a.0 ≡ n = omega (arith, a.1, zero_at, le) in
    subst (λ m. exec code inp m 0 [] s ≡ got_stuck t) j a.2

module _ (c : Scope) (from : Option Identifier) (q : Piece) (ns : List ℕ) (code : List Instruction) (inp : Input)
    (placed : ArePlaced c q.text ns) (is : code ≡ piece_code c q ns) (named : NamedPiece c q) (is_sent : IsSentTo c from inp.sender)
    (sends : AnswersSenders c from q.text) (others : (n : ℕ) → Contains ns n → AnswersSenders c from (text_at c n)) where
  piece_does : (s : Progress) → Does inp code 0 [] s (connections_place c q) (λ _. []) (then_do (take_places c inp.parameters.items 0 q.places s) (λ _ s. act c (join_in c inp.sender) inp.sender q.text s))
  piece_does s =
      let p = text_place q in
      let r = connections_place c q in
      let to = place_in c r ns in
      let a = places_code c 0 q.places in
      let b = text_code c to p q.text in
      let d = connections_code c to r ns in
      let fuel = length c.process.connections in
      let has : HasAt code 0 (a ++ (b ++ d)) = subst (λ l. HasAt l 0 (a ++ (b ++ d))) (sym is) (has_all (a ++ (b ++ d)) []) in
      let len_a : 0 + length a ≡ p = omega (arith, places_size c 0 q.places) in
      let len_b : p + length b ≡ r = omega (arith, text_size_is c to p q.text) in
      let has_b : HasAt code p (b ++ d) = has_back code 0 a (b ++ d) p len_a has in
      let has_d : HasAt code r d = has_back code p b d r len_b has_b in
      bind inp code 0 p r [] s (λ _. []) (λ _. []) (take_places c inp.parameters.items 0 q.places s) (λ _ s. act c (join_in c inp.sender) inp.sender q.text s)
      (places_do inp code c q.places 0 0 p [] s (has_front code 0 a (b ++ d) has) len_a named.places)
      (λ _ u. text_does inp code c from is_sent to (join_in c inp.sender) (follow_over c inp.sender fuel) q.text p r [] u (has_front code p b d has_b) refl named.text.text sends
      (leads_on inp code c from is_sent to ns named.connections (λ n h. connection_stands c code to ns r n has_d h) (placed_closed c q.text ns placed) others fuel q.text named.text.text
      (joined_placed c q.text ns placed) named.connections.few))

  pub run_is_act : piece_budget c.process q ≤ 512 → run.run code inp ≡ Act c q inp
  unfolding run.run
  run_is_act le =
      let s = begun inp in
      let cost = piece_cost c inp.sender named.connections q inp.parameters.items s named in
      over_run inp code s 512 (connections_place c q) (then_do (take_places c inp.parameters.items 0 q.places s) (λ _ s. act c (join_in c inp.sender) inp.sender q.text s)) refl
      (over_bind (take_places c inp.parameters.items 0 q.places s) (λ _ s. act c (join_in c inp.sender) inp.sender q.text s)
      (λ _ v. act_over c (join_in c inp.sender) inp.sender (follow_over c inp.sender (length c.process.connections)) q.text v named.text.ended))
      (omega (arith, cost, le)) (piece_does s)
