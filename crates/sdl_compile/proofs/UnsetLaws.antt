-- Sets of variables, smaller chances, and the variables that stay set.
use Rattle.std.proofs.Common.{◌≡◌, ℕ, zero, suc, ◌<◌, min, Bool, true, false, not, ◌||◌, ◌&&◌, List, [], ◌∷◌, Option, Some, None, refl, ap, ◌∙◌, arith}
use Rattle.std.specs.Prelude.{bit_and}
use Rattle.std.specs.Int.{bit_at}
use Rattle.std.specs.List.{flat_map}
use Rattle.std.specs.Option.{option_map_or}
use Rattle.std.proofs.Math.Bool.{and-false}
use Rattle.std.proofs.lemmas.Nat.Bits.{bit_at_and, bit_at_ones, bit_at-lt}
use Rattle.sdl_ast.specs.declared.expression.Identifier.{Identifier}
use Rattle.sdl_ast.specs.declared.tree.End.{End}
use Rattle.sdl_ast.specs.declared.tree.End.TheVariants.{NextState, Stop, Join}
use Rattle.sdl_ast.specs.Plain.{Tree, PlainAssignment, PlainSending, PlainAction, task, output, set_timer, reset_timer, Text, falls, ends, does, decides, Choice, nothing_else, otherwise, answer, PlainConnection, PlainProcess}
use Rattle.turn_code.specs.declared.variable_set.VariableSet.{VariableSet}
use Rattle.turn_code.specs.Sets.{Has, IsWithin, with_variable}
use Rattle.sdl_tables.specs.Names.{states_of, connection_named}
use Rattle.sdl_sound.specs.Paths.{tree_events, sending_events, action_events, sets_in}
use Rattle.sdl_sound.specs.Chances.{Chances, no_chances, event_chances, behind, beside, last_chances, end_chances, chances, choice_chances, chances_by}
use Rattle.sdl_sound.specs.Names.{tree_names}
use Rattle.sdl_meaning.specs.Outcomes.{Scope, variable_at}
use Rattle.sdl_meaning.specs.Code.{number_or_zero}
use Rattle.sdl_compile.specs.Reads.{tasks_set, action_set, everything, meet, left, answers_left, else_left, choice_left}
use Rattle.sdl_compile.proofs.Walks.{has_more, sets_append, reads_set_none}
use Rattle.plain_laws.proofs.Truths.{neither_first as or_front, neither_second as or_back}

-- ---- tests

pub and_back : (a b : Bool) → a && b ≡ false → a ≡ true → b ≡ false
and_back true b e f = e
and_back false b e f = absurd (let k : ⊥ = cc in k)

pub not_true : {P : Type 0} (b : Bool) → b ≡ true → b ≡ false → P
not_true true e f = absurd (let k : ⊥ = cc in k)
not_true false e f = absurd (let k : ⊥ = cc in k)

pub not_false : (b : Bool) → b ≡ false → not b ≡ true
not_false true e = absurd (let k : ⊥ = cc in k)
not_false false e = refl

-- ---- sets

pub has_everything : (v : ℕ) → v < 32 → Has everything v
unfolding everything
has_everything v lt = bit_at_ones 32 v lt

pub has_meet : (a b : VariableSet) (v : ℕ) → Has a v → Has b v → Has (meet a b) v
has_meet a b v h k =
    let e : bit_at (bit_and a.0 b.0) v ≡ min (bit_at a.0 v) (bit_at b.0 v) = bit_at_and a.0 b.0 v in
    omega (arith, e, h, k)

pub meet_front : (a b : VariableSet) → IsWithin (meet a b) a
meet_front a b v h =
    let e : bit_at (bit_and a.0 b.0) v ≡ min (bit_at a.0 v) (bit_at b.0 v) = bit_at_and a.0 b.0 v in
    let f = bit_at-lt a.0 v in
    omega (arith, e, h, f)

pub meet_back : (a b : VariableSet) → IsWithin (meet a b) b
meet_back a b v h =
    let e : bit_at (bit_and a.0 b.0) v ≡ min (bit_at a.0 v) (bit_at b.0 v) = bit_at_and a.0 b.0 v in
    let f = bit_at-lt b.0 v in
    let g = bit_at-lt a.0 v in
    omega (arith, e, h, f, g)

-- ---- if fewer JOINs are followed, the chances are fewer

pub record IsLess (a b : Chances) : Type 0 where
  pub reads : b.reads ≡ false → a.reads ≡ false
  pub leaves : b.leaves ≡ false → a.leaves ≡ false
  pub enters : b.enters ≡ false → a.enters ≡ false

or_less : (a a2 b b2 : Bool) → (a2 ≡ false → a ≡ false) → (b2 ≡ false → b ≡ false) → a2 || b2 ≡ false → a || b ≡ false
or_less a a2 b b2 f g e = ap (λ x. x || b) (f (or_front a2 b2 e)) ∙ g (or_back a2 b2 e)

and_less : (a a2 b b2 : Bool) → (a2 ≡ false → a ≡ false) → (b2 ≡ false → b ≡ false) → a2 && b2 ≡ false → a && b ≡ false
and_less a true b b2 f g e = ap (λ x. a && x) (g e) ∙ and-false a
and_less a false b b2 f g e = ap (λ x. x && b) (f refl)

same_less : (a : Chances) → IsLess a a
same_less a = record { reads = λ e. e; leaves = λ e. e; enters = λ e. e }

behind_less : (a a2 b b2 : Chances) → IsLess a a2 → IsLess b b2 → IsLess (behind a b) (behind a2 b2)
behind_less a a2 b b2 h k = record {
  reads = or_less a.reads a2.reads (a.leaves && b.reads) (a2.leaves && b2.reads) h.reads (and_less a.leaves a2.leaves b.reads b2.reads h.leaves k.reads);
  leaves = and_less a.leaves a2.leaves b.leaves b2.leaves h.leaves k.leaves;
  enters = or_less a.enters a2.enters (a.leaves && b.enters) (a2.leaves && b2.enters) h.enters (and_less a.leaves a2.leaves b.enters b2.enters h.leaves k.enters);
}

beside_less : (a a2 b b2 : Chances) → IsLess a a2 → IsLess b b2 → IsLess (beside a b) (beside a2 b2)
beside_less a a2 b b2 h k = record {
  reads = or_less a.reads a2.reads b.reads b2.reads h.reads k.reads;
  leaves = or_less a.leaves a2.leaves b.leaves b2.leaves h.leaves k.leaves;
  enters = or_less a.enters a2.enters b.enters b2.enters h.enters k.enters;
}

module _ (states : List Identifier) (join join2 : List ℕ → Chances) (less : (y : List ℕ) → IsLess (join y) (join2 y)) (x : List ℕ) (q : ℕ) where
  end_less : (e : End) → IsLess (end_chances states join q e) (end_chances states join2 q e)
  end_less (NextState n) = same_less (end_chances states join q (NextState n))
  end_less (Stop at) = same_less no_chances
  end_less (Join j) = less j.connector.name

  mutual
    pub text_less : (t : Text) → IsLess (chances states join x q t) (chances states join2 x q t)
    text_less falls = same_less (chances states join x q falls)
    text_less (ends e) = end_less e
    text_less (does a rest) =
        behind_less (event_chances (action_events a) x) (event_chances (action_events a) x) (chances states join x q rest) (chances states join2 x q rest) (same_less (event_chances (action_events a) x)) (text_less rest)
    text_less (decides at u choice rest) =
        let e = event_chances (tree_events u) x in
        let b = choice_chances states join x q choice in
        let b2 = choice_chances states join2 x q choice in
        let r = chances states join x q rest in
        let r2 = chances states join2 x q rest in
        behind_less e e (behind b r) (behind b2 r2) (same_less e) (behind_less b b2 r r2 (choice_less choice) (text_less rest))

    choice_less : (choice : Choice) → IsLess (choice_chances states join x q choice) (choice_chances states join2 x q choice)
    choice_less nothing_else = same_less no_chances
    choice_less (otherwise body) = text_less body
    choice_less (answer at ranges body others) =
        beside_less (chances states join x q body) (chances states join2 x q body) (choice_chances states join x q others) (choice_chances states join2 x q others) (text_less body) (choice_less others)

found_less : (p : PlainProcess) (join join2 : List ℕ → Chances) (less : (y : List ℕ) → IsLess (join y) (join2 y)) (x : List ℕ) (q : ℕ) (o : Option PlainConnection)
    → IsLess (option_map_or (λ c. last_chances (chances (states_of p) join x q c.text)) o no_chances) (option_map_or (λ c. last_chances (chances (states_of p) join2 x q c.text)) o no_chances)
found_less p join join2 less x q None = same_less no_chances
found_less p join join2 less x q (Some c) =
    let h = text_less (states_of p) join join2 less x q c.text in
    record { reads = h.reads; leaves = λ e. refl; enters = h.enters }

pub joins_less : (p : PlainProcess) (n : ℕ) (x : List ℕ) (q : ℕ) (y : List ℕ) → IsLess (chances_by p n x q y) (chances_by p (suc n) x q y)
joins_less p zero x q y = record { reads = λ e. refl; leaves = λ e. refl; enters = λ e. refl }
joins_less p (suc n) x q y = found_less p (chances_by p n x q) (chances_by p (suc n) x q) (λ z. joins_less p n x q z) x q (connection_named p y)

-- ---- events and sets

trees_set_none : (ts : List Tree) (x : List ℕ) → sets_in (flat_map tree_events ts) x ≡ false
trees_set_none [] x = refl
trees_set_none (t ∷ ts) x =
    let e = sets_append (tree_events t) (flat_map tree_events ts) x in
    let f = reads_set_none (tree_names t) x in
    let g = trees_set_none ts x in
    e ∙ ap (λ b. b || sets_in (flat_map tree_events ts) x) f ∙ g

pub sendings_set_none : (list : List PlainSending) (x : List ℕ) → sets_in (flat_map sending_events list) x ≡ false
sendings_set_none [] x = refl
sendings_set_none (s ∷ list) x =
    let e = sets_append (sending_events s) (flat_map sending_events list) x in
    let f = trees_set_none s.parameters x in
    let g = sendings_set_none list x in
    e ∙ ap (λ b. b || sets_in (flat_map sending_events list) x) f ∙ g

module _ (c : Scope) where
  pub tasks_keep : (ts : List PlainAssignment) (m : VariableSet) (v : ℕ) → Has m v → Has (tasks_set c m ts) v
  tasks_keep [] m v h = h
  tasks_keep (a ∷ ts) m v h = tasks_keep ts (with_variable m (number_or_zero (variable_at c a.variable))) v (has_more m (number_or_zero (variable_at c a.variable)) v h)

  pub action_keep : (a : PlainAction) (m : VariableSet) (v : ℕ) → Has m v → Has (action_set c m a) v
  action_keep (task at ts) m v h = tasks_keep ts m v h
  action_keep (output at list to) m v h = h
  action_keep (set_timer at u n) m v h = h
  action_keep (reset_timer at n) m v h = h

  mutual
    pub left_keep : (t : Text) (m : VariableSet) (v : ℕ) → v < 32 → Has m v → Has (left c m t) v
    left_keep falls m v lt h = h
    left_keep (ends e) m v lt h = has_everything v lt
    left_keep (does a rest) m v lt h = left_keep rest (action_set c m a) v lt (action_keep a m v h)
    left_keep (decides at q choice rest) m v lt h = left_keep rest (choice_left c m choice) v lt (has_meet (answers_left c m everything choice) (else_left c m choice) v (answers_keep choice m everything v lt h (has_everything v lt)) (else_keep choice m v lt h))

    answers_keep : (choice : Choice) (m all : VariableSet) (v : ℕ) → v < 32 → Has m v → Has all v → Has (answers_left c m all choice) v
    answers_keep nothing_else m all v lt h k = k
    answers_keep (otherwise body) m all v lt h k = k
    answers_keep (answer at ranges body others) m all v lt h k = answers_keep others m (meet all (left c m body)) v lt h (has_meet all (left c m body) v k (left_keep body m v lt h))

    else_keep : (choice : Choice) (m : VariableSet) (v : ℕ) → v < 32 → Has m v → Has (else_left c m choice) v
    else_keep nothing_else m v lt h = has_everything v lt
    else_keep (otherwise body) m v lt h = left_keep body m v lt h
    else_keep (answer at ranges body others) m v lt h = else_keep others m v lt h

  pub choice_keep : (choice : Choice) (m : VariableSet) (v : ℕ) → v < 32 → Has m v → Has (choice_left c m choice) v
  choice_keep choice m v lt h = has_meet (answers_left c m everything choice) (else_left c m choice) v (answers_keep choice m everything v lt h (has_everything v lt)) (else_keep choice m v lt h)
