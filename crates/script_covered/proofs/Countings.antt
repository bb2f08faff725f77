-- The counts of turns: per transition, and per place of the text.
use Rattle.std.proofs.Common.{◌≡◌, ◌≢◌, ◌∙◌, ℕ, zero, suc, ◌+◌, ◌<◌, Bool, true, false, true≢false, ◌&&◌, cond, List, [], ◌∷◌, ◌++◌, append_assoc, append-nil, length, replicate, get_or, slice_set, Option, None, Some, arith, refl, sym, ap, subst}
use Rattle.std.specs.Prelude.{◌==◌, nat_eq, if◌then◌else◌, position, slice_get}
use Rattle.std.specs.List.{position_from}
use Rattle.std.proofs.lemmas.Bool.{eqb-true as same_number}
use Rattle.std.proofs.lemmas.Bool.Decides.{nat_tests}
use Rattle.std.proofs.lemmas.Iterator.Adapters.{position_from-zero}
use Rattle.std.proofs.lemmas.List.{get_or-set_same, get_or-set_other, flat_map_more}
use Rattle.std.proofs.lemmas.List.Sums.{sum_by_push}
use Rattle.std.proofs.lemmas.List.Quantifiers.{position-Some}
use Rattle.std.proofs.lemmas.Option.{none-some}
use Rattle.sdl_ast.specs.Plain.{PlainBlock, PlainProcess}
use Rattle.sdl_ast.specs.declared.expression.Identifier.{Identifier}
use Rattle.sdl_ast.specs.declared.tree.Process as the_process
use Rattle.sdl_ast.specs.Views.{text_of, process_of}
use Rattle.sdl_tables.specs.Names.{Input, processes_of, inputs_by_state}
use Rattle.turn_code.specs.declared.input.Input as given
use Rattle.turn_code.specs.declared.input.Place.{Place}
use Rattle.turn_code.specs.declared.input.Place.TheVariants.{Start, State as AtState}
use Rattle.turn_code.specs.declared.numbers.StateNumber.{StateNumber}
use Rattle.turn_machine.specs.Turn.{Turn}
use Rattle.script_covered.specs.Ways.{Taken, at, else_of}
use Rattle.script_covered.specs.Covered.{is_at, is_else, times, others, same_state, state_in, is_of, is_known, known_turns, counted_turn, HasTurns, HasCounts, one_more, HasTaken, passed, taken_input, input_at, taken_at, taken_of, taken_by, Covers}
use Rattle.script_covered.specs.declared.coverage.Coverage.{Coverage}
use Rattle.script_covered.specs.declared.coverage.Counts.{Counts}
use Rattle.script_covered.specs.declared.coverage.Places.{Places}
use Rattle.script_covered.specs.declared.coverage.TurnCounts.{TurnCounts}
use Rattle.script_covered.specs.declared.coverage.Turns.{Turns}

-- ---- the count of a transition, one higher

abbrev pub more : Turns → Turns
more t = record t { times = t.times + 1 }

counted_at : (p : ℕ) (s : Option ℕ) (n : ℕ) (ts : List Turns) (i : ℕ) (d : Turns) → i < length ts → is_known (get_or ts i d) p s n ≡ true
    → ((k : ℕ) → k < i → is_known (get_or ts k d) p s n ≡ false) → counted_turn p s n ts ≡ slice_set ts i (more (get_or ts i d))
counted_at p s n [] i d within same before = absurd (omega (arith, within))
counted_at p s n (t ∷ ts) zero d within same before = ap (λ (b : Bool). if b then more t ∷ ts else t ∷ counted_turn p s n ts) same
counted_at p s n (t ∷ ts) (suc i) d within same before =
    ap (λ (b : Bool). if b then more t ∷ ts else t ∷ counted_turn p s n ts) (before zero (omega arith))
    ∙ ap (λ (l : List Turns). t ∷ l) (counted_at p s n ts i d (omega (arith, within)) same (λ k lt. before (suc k) (omega (arith, lt))))

-- the transition had turns before
pub counted_again : (p : ℕ) (s : Option ℕ) (n : ℕ) (ts : List Turns) (i : ℕ) (d : Turns) → position (λ (t : Turns). is_known t p s n) ts ≡ Some i
    → slice_set ts i (more (get_or ts i d)) ≡ counted_turn p s n ts
counted_again p s n ts i d is =
    let h = position-Some (λ (t : Turns). is_known t p s n) ts i d is in
    sym (counted_at p s n ts i d h.0 h.1 h.2)

abbrev pub first : ℕ → Option ℕ → ℕ → Turns
first p s n = record { process = p; state = s; input = n; times = 1 }

new_by : (p : ℕ) (s : Option ℕ) (n : ℕ) (t : Turns) (ts : List Turns) (i : ℕ) (b : Bool) → cond b (Some i) (position_from (λ (z : Turns). is_known z p s n) (i + 1) ts) ≡ None
    → (position_from (λ (z : Turns). is_known z p s n) (i + 1) ts ≡ None → counted_turn p s n ts ≡ ts ++ first p s n ∷ [])
    → (if b then more t ∷ ts else t ∷ counted_turn p s n ts) ≡ t ∷ (ts ++ first p s n ∷ [])
new_by p s n t ts i true none rest = absurd (none-some i (sym none))
new_by p s n t ts i false none rest = ap (λ (l : List Turns). t ∷ l) (rest none)

new_from : (p : ℕ) (s : Option ℕ) (n : ℕ) (ts : List Turns) (i : ℕ) → position_from (λ (z : Turns). is_known z p s n) i ts ≡ None → counted_turn p s n ts ≡ ts ++ first p s n ∷ []
new_from p s n [] i none = refl
new_from p s n (t ∷ ts) i none = new_by p s n t ts i (is_known t p s n) none (new_from p s n ts (i + 1))

-- the transition had no turns before
pub counted_first : (p : ℕ) (s : Option ℕ) (n : ℕ) (ts : List Turns) → position (λ (t : Turns). is_known t p s n) ts ≡ None → ts ++ first p s n ∷ [] ≡ counted_turn p s n ts
counted_first p s n ts none = sym (new_from p s n ts 0 (sym (position_from-zero (λ (t : Turns). is_known t p s n) ts) ∙ none))

-- ---- looking up the count of a transition

known_at : (p : ℕ) (s : Option ℕ) (n : ℕ) (ts : List Turns) (i : ℕ) (d : Turns) → i < length ts → is_known (get_or ts i d) p s n ≡ true
    → ((k : ℕ) → k < i → is_known (get_or ts k d) p s n ≡ false) → known_turns ts p s n ≡ (get_or ts i d).times
known_at p s n [] i d within same before = absurd (omega (arith, within))
known_at p s n (t ∷ ts) zero d within same before = ap (λ (b : Bool). if b then t.times else known_turns ts p s n) same
known_at p s n (t ∷ ts) (suc i) d within same before =
    ap (λ (b : Bool). if b then t.times else known_turns ts p s n) (before zero (omega arith))
    ∙ known_at p s n ts i d (omega (arith, within)) same (λ k lt. before (suc k) (omega (arith, lt)))

pub known_there : (p : ℕ) (s : Option ℕ) (n : ℕ) (ts : List Turns) (i : ℕ) (d : Turns) → position (λ (t : Turns). is_known t p s n) ts ≡ Some i
    → (get_or ts i d).times ≡ known_turns ts p s n
known_there p s n ts i d is =
    let h = position-Some (λ (t : Turns). is_known t p s n) ts i d is in
    sym (known_at p s n ts i d h.0 h.1 h.2)

none_by : (p : ℕ) (s : Option ℕ) (n : ℕ) (t : Turns) (ts : List Turns) (i : ℕ) (b : Bool) → cond b (Some i) (position_from (λ (z : Turns). is_known z p s n) (i + 1) ts) ≡ None
    → (position_from (λ (z : Turns). is_known z p s n) (i + 1) ts ≡ None → known_turns ts p s n ≡ 0) → (if b then t.times else known_turns ts p s n) ≡ 0
none_by p s n t ts i true none rest = absurd (none-some i (sym none))
none_by p s n t ts i false none rest = rest none

none_from : (p : ℕ) (s : Option ℕ) (n : ℕ) (ts : List Turns) (i : ℕ) → position_from (λ (z : Turns). is_known z p s n) i ts ≡ None → known_turns ts p s n ≡ 0
none_from p s n [] i none = refl
none_from p s n (t ∷ ts) i none = none_by p s n t ts i (is_known t p s n) none (none_from p s n ts (i + 1))

pub known_nowhere : (p : ℕ) (s : Option ℕ) (n : ℕ) (ts : List Turns) → position (λ (t : Turns). is_known t p s n) ts ≡ None → 0 ≡ known_turns ts p s n
known_nowhere p s n ts none = sym (none_from p s n ts 0 (sym (position_from-zero (λ (t : Turns). is_known t p s n) ts) ∙ none))

-- ---- one more turn changes the count of its transition only

abbrev one_if : Bool → ℕ
one_if b = cond b 1 0

-- whether two keys name the same transition
abbrev same_key : ℕ → Option ℕ → ℕ → ℕ → Option ℕ → ℕ → Bool
same_key p s n q r m = (p == q) && (same_state s r && (n == m))

record AreSame (t : Turns) (p : ℕ) (s : Option ℕ) (n : ℕ) : Type 0 where
  process : t.process ≡ p
  state : t.state ≡ s
  input : t.input ≡ n

and_first : (a b : Bool) → a && b ≡ true → a ≡ true
and_first true b e = refl
and_first false b e = e

and_second : (a b : Bool) → a && b ≡ true → b ≡ true
and_second true b e = e
and_second false b e = absurd (true≢false (sym e))

states_same : (s r : Option ℕ) → same_state s r ≡ true → s ≡ r
states_same None None e = refl
states_same None (Some q) e = absurd (true≢false (sym e))
states_same (Some q) None e = absurd (true≢false (sym e))
states_same (Some q) (Some r) e = ap Some (same_number q r e)

are_same : (t : Turns) (p : ℕ) (s : Option ℕ) (n : ℕ) → is_known t p s n ≡ true → AreSame t p s n
are_same t p s n e =
    let rest = and_second (t.process == p) (same_state t.state s && (t.input == n)) e in
    record {
      process = same_number t.process p (and_first (t.process == p) (same_state t.state s && (t.input == n)) e);
      state = states_same t.state s (and_first (same_state t.state s) (t.input == n) rest);
      input = same_number t.input n (and_second (same_state t.state s) (t.input == n) rest);
    }

-- the counts agree for a transition that has one more turn
one_known : (t : Turns) (rest : ℕ) (p q : ℕ) (s r : Option ℕ) (n m : ℕ) → AreSame t p s n
    → (if is_known t q r m then t.times + 1 else rest) ≡ (if is_known t q r m then t.times else rest) + one_if (same_key p s n q r m)
one_known t rest p q s r n m same =
    by_test (is_known t q r m)
    ∙ ap (λ (b : Bool). (if is_known t q r m then t.times else rest) + one_if b)
    (ap (λ (k : ℕ). same_key k t.state t.input q r m) same.process
    ∙ (ap (λ (k : Option ℕ). same_key p k t.input q r m) same.state ∙ ap (λ (k : ℕ). same_key p s k q r m) same.input))
  where
    by_test : (b : Bool) → (if b then t.times + 1 else rest) ≡ (if b then t.times else rest) + one_if b
    by_test true = refl
    by_test false = omega arith

-- another transition is not the one counted
none_more : (t : Turns) (p q : ℕ) (s r : Option ℕ) (n m : ℕ) → is_known t p s n ≡ false → is_known t q r m ≡ true → same_key p s n q r m ≡ false
none_more t p q s r n m other known =
    let is = are_same t q r m known in
    by_test (same_key p s n q r m) (λ same.
    let process = and_first (p == q) (same_state s r && (n == m)) same in
    let rest = and_second (p == q) (same_state s r && (n == m)) same in
    let state : s ≡ r = states_same s r (and_first (same_state s r) (n == m) rest) in
    let input : n ≡ m = same_number n m (and_second (same_state s r) (n == m) rest) in
    sym other
    ∙ (ap (λ (k : ℕ). is_known t k s n) (same_number p q process)
    ∙ (ap (λ (k : Option ℕ). is_known t q k n) state ∙ (ap (λ (k : ℕ). is_known t q r k) input ∙ known))))
  where
    by_test : (b : Bool) → (b ≡ true → false ≡ true) → b ≡ false
    by_test true never = sym (never refl)
    by_test false never = refl

none_counted : (b : Bool) → cond {A = ℕ} b 1 0 ≡ 0 + one_if b
none_counted true = refl
none_counted false = refl

known_counted : (p q : ℕ) (s r : Option ℕ) (n m : ℕ) (ts : List Turns) → known_turns (counted_turn p s n ts) q r m ≡ known_turns ts q r m + one_if (same_key p s n q r m)
known_counted p q s r n m [] = none_counted (same_key p s n q r m)
known_counted p q s r n m (t ∷ ts) = by_test (is_known t p s n) refl (known_counted p q s r n m ts)
  where
    left : (b d : Bool) → is_known t p s n ≡ false → is_known t q r m ≡ d → (u v : ℕ) → u ≡ v + one_if (same_key p s n q r m)
        → (if d then t.times else u) ≡ (if d then t.times else v) + one_if (same_key p s n q r m)
    left b true other known u v rest = sym (ap (λ (k : Bool). t.times + one_if k) (none_more t p q s r n m other known) ∙ omega arith)
    left b false other known u v rest = rest

    by_test : (b : Bool) → is_known t p s n ≡ b → known_turns (counted_turn p s n ts) q r m ≡ known_turns ts q r m + one_if (same_key p s n q r m)
        → known_turns (if b then more t ∷ ts else t ∷ counted_turn p s n ts) q r m ≡ known_turns (t ∷ ts) q r m + one_if (same_key p s n q r m)
    by_test true is rest = one_known t (known_turns ts q r m) p q s r n m (are_same t p s n is)
    by_test false is rest = left false (is_known t q r m) is refl (known_turns (counted_turn p s n ts) q r m) (known_turns ts q r m) rest

-- a turn is counted for its transition
pub turns_more : (ts : List Turn) (t : Turn) (c d : TurnCounts) → d.turns.items ≡ counted_turn t.process.0 (state_in t.place) t.input_number c.turns.items
    → HasTurns ts c → HasTurns (ts ++ t ∷ []) d
turns_more ts t c d is has = λ q r m.
    ap (λ (l : List Turns). known_turns l q r m) is
    ∙ (known_counted t.process.0 q (state_in t.place) r t.input_number m c.turns.items
    ∙ (ap (λ (k : ℕ). k + one_if (is_of q r m t)) (has q r m) ∙ sym (sum_by_push (λ (u : Turn). one_if (is_of q r m u)) ts t)))

-- ---- places

same_as : (j : ℕ) → nat_eq j j ≡ true
same_as j = grind (arith, nat_tests)

pub set_more : (f : ℕ → ℕ) (ts : List ℕ) (spot n : ℕ) → spot < length ts → n ≡ get_or ts spot 0 + 1 → ((k : ℕ) → get_or ts k 0 ≡ f k) → (k : ℕ) → get_or (slice_set ts spot n) k 0 ≡ one_more spot f k
set_more f ts spot n within is has k = by_test (k == spot) refl
  where
    by_test : (b : Bool) → nat_eq k spot ≡ b → get_or (slice_set ts spot n) k 0 ≡ (if b then f k + 1 else f k)
    by_test true e =
        let same : k ≡ spot = same_number k spot e in
        ap (λ (j : ℕ). get_or (slice_set ts spot n) j 0) same
        ∙ (get_or-set_same ts spot n 0 within ∙ (is ∙ ap (λ (j : ℕ). j + 1) (ap (λ (j : ℕ). get_or ts j 0) (sym same) ∙ has k)))
    by_test false e =
        let other : k ≢ spot = λ same. true≢false (sym (same_as k) ∙ (ap (nat_eq k) same ∙ e)) in
        get_or-set_other ts spot k n 0 other ∙ has k

-- one more execution is counted at its place
pub counts_more : (f : ℕ → ℕ) (c d : Places) (spot n : ℕ) → spot < length c.times.items → n ≡ get_or c.times.items spot 0 + 1 → d.times.items ≡ slice_set c.times.items spot n → d.over ≡ c.over
    → HasCounts f c → HasCounts (one_more spot f) d
counts_more f c d spot n within is are same has = λ under k.
    ap (λ (l : List ℕ). get_or l k 0) are ∙ set_more f c.times.items spot n within is (has (sym same ∙ under)) k

counts_as : (f g : ℕ → ℕ) (c : Places) → ((k : ℕ) → f k ≡ g k) → HasCounts f c → HasCounts g c
counts_as f g c same has = λ under k. has under k ∙ same k

add_if : (f : ℕ → ℕ) (k spot : ℕ) → (if k == spot then f k + 1 else f k) ≡ f k + one_if (k == spot)
add_if f k spot = by_test (k == spot)
  where
    by_test : (b : Bool) → (if b then f k + 1 else f k) ≡ f k + one_if b
    by_test true = refl
    by_test false = omega arith

add_none : (n : ℕ) → n ≡ n + 0
add_none n = omega arith

pub taken_at_place : (xs : List Taken) (c d : Counts) (k : ℕ) → ((f : ℕ → ℕ) → HasCounts f c.begun → HasCounts (one_more k f) d.begun) → d.others ≡ c.others
    → HasTaken xs c → HasTaken (xs ++ at k ∷ []) d
taken_at_place xs c d k counts same has = record {
  begun = counts_as (one_more k (times xs)) (times (xs ++ at k ∷ [])) d.begun (λ j. add_if (times xs) j k ∙ sym (sum_by_push (λ (x : Taken). one_if (is_at j x)) xs (at k))) (counts (times xs) has.begun);
  others =
      counts_as (others xs) (others (xs ++ at k ∷ [])) d.others (λ j. add_none (others xs j) ∙ sym (sum_by_push (λ (x : Taken). one_if (is_else j x)) xs (at k)))
      (subst (HasCounts (others xs)) (sym same) has.others);
}

pub taken_at_else : (xs : List Taken) (c d : Counts) (k : ℕ) → ((f : ℕ → ℕ) → HasCounts f c.others → HasCounts (one_more k f) d.others) → d.begun ≡ c.begun
    → HasTaken xs c → HasTaken (xs ++ else_of k ∷ []) d
taken_at_else xs c d k counts same has = record {
  begun =
      counts_as (times xs) (times (xs ++ else_of k ∷ [])) d.begun (λ j. add_none (times xs j) ∙ sym (sum_by_push (λ (x : Taken). one_if (is_at j x)) xs (else_of k)))
      (subst (HasCounts (times xs)) (sym same) has.begun);
  others = counts_as (one_more k (others xs)) (others (xs ++ else_of k ∷ [])) d.others (λ j. add_if (others xs) j k ∙ sym (sum_by_push (λ (x : Taken). one_if (is_else j x)) xs (else_of k))) (counts (others xs) has.others);
}

-- ---- one turn

-- one item is taken, and then others
pub taken_both : (xs ys : List Taken) (x : Taken) (old mid new : Counts) → (HasTaken xs old → HasTaken (xs ++ x ∷ []) mid) → ((zs : List Taken) → HasTaken zs mid → HasTaken (zs ++ ys) new)
    → HasTaken xs old → HasTaken (xs ++ x ∷ ys) new
taken_both xs ys x old mid new one next has = subst (λ (l : List Taken). HasTaken l new) (append_assoc xs (x ∷ []) ys) (next (xs ++ x ∷ []) (one has))

pub taken_nothing : (xs : List Taken) (c : Counts) → HasTaken xs c → HasTaken (xs ++ []) c
taken_nothing xs c has = subst (λ (l : List Taken). HasTaken l c) (sym (append-nil xs)) has

pub start_taken : (q p : the_process.Process) (x : given.Input) (xs : List Taken) (old mid new : Counts) → q ≡ p → (HasTaken xs old → HasTaken (xs ++ at q.start.at ∷ []) mid)
    → ((zs : List Taken) → HasTaken zs mid → HasTaken (zs ++ passed (process_of p) [] (text_of q.start.transition) x) new) → HasTaken xs old
    → HasTaken (xs ++ taken_at (process_of p) Start 0 x) new
start_taken q p x xs old mid new same one next has =
    subst (λ (r : the_process.Process). HasTaken (xs ++ at r.start.at ∷ passed (process_of p) [] (text_of r.start.transition) x) new) same
    (taken_both xs (passed (process_of p) [] (text_of q.start.transition) x) (at q.start.at) old mid new one next has)

pub row_taken : (p : PlainProcess) (i : Input) (places : List (Option Identifier)) (x : given.Input) (xs : List Taken) (old mid new : Counts) → places ≡ i.stimulus.places
    → (HasTaken xs old → HasTaken (xs ++ at i.at ∷ []) mid) → ((zs : List Taken) → HasTaken zs mid → HasTaken (zs ++ passed p places i.text x) new) → HasTaken xs old
    → HasTaken (xs ++ taken_input p (Some i) x) new
row_taken p i places x xs old mid new same one next has =
    subst (λ (l : List (Option Identifier)). HasTaken (xs ++ at i.at ∷ passed p l i.text x) new) same
    (taken_both xs (passed p places i.text x) (at i.at) old mid new one next has)

pub state_taken : (p : PlainProcess) (q : StateNumber) (state n : ℕ) (rows : List (List Input)) (place : Place) (o : Option Input) (x : given.Input) (xs : List Taken) (new : Counts)
    → place ≡ AtState q → state ≡ q.0 → rows ≡ inputs_by_state p → o ≡ input_at (slice_get rows state) n → HasTaken (xs ++ taken_input p o x) new
    → HasTaken (xs ++ taken_at p place n x) new
state_taken p q state n rows place o x xs new here same are is has =
    subst (λ (l : List Taken). HasTaken (xs ++ l) new)
    (ap (λ (i : Option Input). taken_input p i x) is
    ∙ (ap (λ (k : ℕ). taken_input p (input_at (slice_get rows k) n) x) same
    ∙ (ap (λ (rs : List (List Input)). taken_input p (input_at (slice_get rs q.0) n) x) are
    ∙ ap (λ (it : Place). taken_at p it n x) (sym here)))) has

pub at_start : (p : PlainProcess) (n : ℕ) (place : Place) (x : given.Input) (xs : List Taken) (new : Counts) → place ≡ Start → HasTaken (xs ++ taken_at p Start 0 x) new
    → HasTaken (xs ++ taken_at p place n x) new
at_start p n place x xs new here has = subst (λ (it : Place). HasTaken (xs ++ taken_at p it n x) new) (sym here) has

-- the counted turn, with its parts replaced by equal ones
pub counted_as : (old new : List Turns) (p q : ℕ) (s : Option ℕ) (place : Place) (n m : ℕ) → new ≡ counted_turn p s n old → p ≡ q → s ≡ state_in place → n ≡ m
    → new ≡ counted_turn q (state_in place) m old
counted_as old new p q s place n m is one state number =
    is ∙ (ap (λ (k : ℕ). counted_turn k s n old) one ∙ (ap (λ (k : Option ℕ). counted_turn q k n old) state ∙ ap (λ (k : ℕ). counted_turn q (state_in place) k old) number))

pub taken_as : (p : PlainProcess) (xs : List Taken) (old new : Counts) (t : Turn) (place : Place) (n : ℕ) (x : given.Input) → place ≡ t.place → n ≡ t.input_number → x ≡ t.input
    → (HasTaken xs old → HasTaken (xs ++ taken_at p place n x) new) → HasTaken xs old → HasTaken (xs ++ taken_of (Some p) t) new
taken_as p xs old new t place n x here number input step has =
    subst (λ (l : List Taken). HasTaken (xs ++ l) new)
    (ap (λ (it : Place). taken_at p it n x) here ∙ (ap (λ (k : ℕ). taken_at p t.place k x) number ∙ ap (λ (i : given.Input). taken_at p t.place t.input_number i) input)) (step has)

taken_more : (b : PlainBlock) (ts : List Turn) (t : Turn) → taken_by b (ts ++ t ∷ []) ≡ taken_by b ts ++ taken_of (slice_get (processes_of b) t.process.0) t
taken_more b ts t = sym (flat_map_more (λ (u : Turn). taken_of (slice_get (processes_of b) u.process.0) u) [] ts t)

pub covers_more : (b : PlainBlock) (ts : List Turn) (t : Turn) (p : PlainProcess) (c d : Coverage) → slice_get (processes_of b) t.process.0 ≡ Some p
    → d.turns.turns.items ≡ counted_turn t.process.0 (state_in t.place) t.input_number c.turns.turns.items
    → ((xs : List Taken) → HasTaken xs c.counts → HasTaken (xs ++ taken_of (Some p) t) d.counts) → Covers b ts c → Covers b (ts ++ t ∷ []) d
covers_more b ts t p c d is counted taken has = record {
  turns = turns_more ts t c.turns d.turns counted has.turns;
  taken =
      subst (λ (l : List Taken). HasTaken l d.counts)
      (ap (λ (o : Option PlainProcess). taken_by b ts ++ taken_of o t) (sym is) ∙ sym (taken_more b ts t)) (taken (taken_by b ts) has.taken);
}

pub zero_at : (n k : ℕ) → ◌≡◌ {A = ℕ} (get_or (replicate n 0) k 0) 0
zero_at zero k = refl
zero_at (suc n) zero = refl
zero_at (suc n) (suc k) = zero_at n k
