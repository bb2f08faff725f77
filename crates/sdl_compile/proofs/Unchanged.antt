-- A connection that begins with every variable changes no set: no JOIN to it is seen, or all is set at each.
use Rattle.std.proofs.Common.{◌≡◌, ℕ, zero, suc, ◌^◌, Bool, true, false, cond, List, [], ◌∷◌, length, map, Option, Some, None, refl, sym, ap, ◌∙◌, subst}
use Rattle.std.specs.Prelude.{slice_get, slice_set}
use Rattle.std.specs.Int.Bits.{bit_and, bit_or, and_self}
use Rattle.std.specs.Option.{option_map_or}
use Rattle.std.proofs.lemmas.Nat.{and_comm, and_assoc, or_comm, and_or_self}
use Rattle.sdl_ast.specs.declared.tree.End.{End}
use Rattle.sdl_ast.specs.declared.tree.End.TheVariants.{NextState, Stop, Join}
use Rattle.sdl_ast.specs.Plain.{PlainAssignment, PlainAction, task, output, set_timer, reset_timer, Text, falls, ends, does, decides, Choice, nothing_else, otherwise, answer, PlainConnection}
use Rattle.turn_code.specs.declared.variable_set.VariableSet.{VariableSet}
use Rattle.turn_code.specs.Sets.{with_variable}
use Rattle.sdl_meaning.specs.Act.{is_truth}
use Rattle.sdl_meaning.specs.Outcomes.{Scope, connector_at, variable_at}
use Rattle.sdl_meaning.specs.Code.{number_or_zero}
use Rattle.sdl_compile.specs.Reads.{tasks_set, action_set, everything, meet, left, answers_left, else_left, choice_left}
use Rattle.sdl_compile.specs.Entries.{entry_at, met_at, end_met, met, answers_met, else_met, connection_met, connections_met, AreOfAll}

-- ---- bits

or_full : (m b e : ℕ) → bit_and m e ≡ e → bit_and (bit_or m b) e ≡ e
or_full m b e h =
    ap (bit_and (bit_or m b)) (sym h) ∙ sym (and_assoc e (bit_or m b) m) ∙ ap (λ n. bit_and n e) (ap (λ n. bit_and n m) (or_comm m b) ∙ and_or_self m b) ∙ h

and_full : (a b e : ℕ) → bit_and a e ≡ e → bit_and b e ≡ e → bit_and (bit_and a b) e ≡ e
and_full a b e h k = and_assoc e a b ∙ ap (bit_and a) k ∙ h

and_kept : (x m e : ℕ) → bit_and x e ≡ x → bit_and (bit_and x m) e ≡ bit_and x m
and_kept x m e h = and_assoc e x m ∙ ap (bit_and x) (and_comm m e) ∙ sym (and_assoc m x e) ∙ ap (λ n. bit_and n m) h

and_same : (x m e : ℕ) → bit_and x e ≡ x → bit_and m e ≡ e → bit_and x m ≡ x
and_same x m e h k = ap (λ n. bit_and n m) (sym h) ∙ and_assoc m x e ∙ ap (bit_and x) (and_comm e m ∙ k) ∙ h

-- ---- sets with every variable

abbrev pub IsFull : VariableSet → Type 0
IsFull m = bit_and m.0 everything.0 ≡ everything.0

everything_full : IsFull everything
everything_full = and_self everything.0

meet_full : (a b : VariableSet) → IsFull a → IsFull b → IsFull (meet a b)
meet_full a b h k = and_full a.0 b.0 everything.0 h k

as_set : ℕ → VariableSet
as_set n = record { 0 = n }

everything_kept : meet everything everything ≡ everything
unfolding as_set
everything_kept = ap as_set (and_self everything.0)

meet_kept : (e m : VariableSet) → meet e everything ≡ e → meet (meet e m) everything ≡ meet e m
unfolding as_set
meet_kept e m h = ap as_set (and_kept e.0 m.0 everything.0 (ap (λ (s : VariableSet). s.0) h))

meet_same : (e m : VariableSet) → meet e everything ≡ e → IsFull m → meet e m ≡ e
unfolding as_set
meet_same e m h k = ap as_set (and_same e.0 m.0 everything.0 (ap (λ (s : VariableSet). s.0) h) k)

-- ---- lists of sets

set_own : (es : List VariableSet) (n : ℕ) → slice_set es n (entry_at es n) ≡ es
set_own [] n = refl
set_own (x ∷ es) zero = refl
set_own (x ∷ es) (suc n) = ap (λ l. x ∷ l) (set_own es n)

set_kept : (es : List VariableSet) (n : ℕ) (e : VariableSet) → meet e everything ≡ e → AreOfAll es → AreOfAll (slice_set es n e)
set_kept [] n e h all k = all k
set_kept (x ∷ es) zero e h all zero = h
set_kept (x ∷ es) zero e h all (suc k) = all (suc k)
set_kept (x ∷ es) (suc n) e h all zero = all 0
set_kept (x ∷ es) (suc n) e h all (suc k) = set_kept es n e h (λ i. all (suc i)) k

-- Before any JOIN, each set has every variable.
pub start_kept : (xs : List PlainConnection) → AreOfAll (map (λ x. everything) xs)
start_kept [] k = everything_kept
start_kept (x ∷ xs) zero = everything_kept
start_kept (x ∷ xs) (suc k) = start_kept xs k

by_sort : (P : List VariableSet → Type 0) (b : Bool) (es fs : List VariableSet) → P es → P fs → P (cond b es fs)
by_sort P true es fs h k = h
by_sort P false es fs h k = k

module _ (c : Scope) where
  -- ---- the variables that are set after a text that begins with every variable

  tasks_full : (m : VariableSet) (ts : List PlainAssignment) → IsFull m → IsFull (tasks_set c m ts)
  tasks_full m [] h = h
  tasks_full m (a ∷ rest) h =
      tasks_full (with_variable m (number_or_zero (variable_at c a.variable))) rest
      (or_full m.0 (2 ^ number_or_zero (variable_at c a.variable)) everything.0 h)

  action_full : (m : VariableSet) (a : PlainAction) → IsFull m → IsFull (action_set c m a)
  action_full m (task at ts) h = tasks_full m ts h
  action_full m (output at xs to) h = h
  action_full m (set_timer at t n) h = h
  action_full m (reset_timer at n) h = h

  mutual
    left_full : (m : VariableSet) (t : Text) → IsFull m → IsFull (left c m t)
    left_full m falls h = h
    left_full m (ends e) h = everything_full
    left_full m (does a rest) h = left_full (action_set c m a) rest (action_full m a h)
    left_full m (decides at q choice rest) h =
        left_full (choice_left c m choice) rest
        (meet_full (answers_left c m everything choice) (else_left c m choice) (answers_full m everything choice h everything_full) (else_full m choice h))

    answers_full : (m all : VariableSet) (choice : Choice) → IsFull m → IsFull all → IsFull (answers_left c m all choice)
    answers_full m all nothing_else h k = k
    answers_full m all (otherwise body) h k = k
    answers_full m all (answer at ranges body others) h k = answers_full m (meet all (left c m body)) others h (meet_full all (left c m body) k (left_full m body h))

    else_full : (m : VariableSet) (choice : Choice) → IsFull m → IsFull (else_left c m choice)
    else_full m nothing_else h = everything_full
    else_full m (otherwise body) h = left_full m body h
    else_full m (answer at ranges body others) h = else_full m others h

  choice_full : (m : VariableSet) (choice : Choice) → IsFull m → IsFull (choice_left c m choice)
  choice_full m choice h =
      meet_full (answers_left c m everything choice) (else_left c m choice) (answers_full m everything choice h everything_full) (else_full m choice h)

  -- ---- the JOINs of such a text change nothing

  end_same : (m : VariableSet) (e : End) (es : List VariableSet) → IsFull m → AreOfAll es → end_met c m e es ≡ es
  end_same m (NextState n) es h all = refl
  end_same m (Stop at) es h all = refl
  end_same m (Join j) es h all =
      let n = number_or_zero (connector_at c j.connector) in
      ap (slice_set es n) (meet_same (entry_at es n) m (all n) h) ∙ set_own es n

  mutual
    met_same : (m : VariableSet) (t : Text) (es : List VariableSet) → IsFull m → AreOfAll es → met c m t es ≡ es
    met_same m falls es h all = refl
    met_same m (ends e) es h all = end_same m e es h all
    met_same m (does a rest) es h all = met_same (action_set c m a) rest es (action_full m a h) all
    met_same m (decides at q choice rest) es h all =
        ap (met c (choice_left c m choice) rest)
        (by_sort (λ fs. fs ≡ es) (is_truth c q) (else_met c m choice (answers_met c m choice es)) (answers_met c m choice (else_met c m choice es))
        (ap (else_met c m choice) (answers_same m choice es h all) ∙ else_same m choice es h all)
        (ap (answers_met c m choice) (else_same m choice es h all) ∙ answers_same m choice es h all))
        ∙ met_same (choice_left c m choice) rest es (choice_full m choice h) all

    answers_same : (m : VariableSet) (choice : Choice) (es : List VariableSet) → IsFull m → AreOfAll es → answers_met c m choice es ≡ es
    answers_same m nothing_else es h all = refl
    answers_same m (otherwise body) es h all = refl
    answers_same m (answer at ranges body others) es h all = ap (answers_met c m others) (met_same m body es h all) ∙ answers_same m others es h all

    else_same : (m : VariableSet) (choice : Choice) (es : List VariableSet) → IsFull m → AreOfAll es → else_met c m choice es ≡ es
    else_same m nothing_else es h all = refl
    else_same m (otherwise body) es h all = met_same m body es h all
    else_same m (answer at ranges body others) es h all = else_same m others es h all

  -- the JOINs of such a connection change nothing
  pub connection_same : (n : ℕ) (es : List VariableSet) → entry_at es n ≡ everything → AreOfAll es → connection_met c n es ≡ es
  connection_same n es e all = by_found (slice_get c.process.connections n)
    where
      by_found : (o : Option PlainConnection) → option_map_or (λ (x : PlainConnection). met c (entry_at es n) x.text es) o es ≡ es
      by_found None = refl
      by_found (Some x) = met_same (entry_at es n) x.text es (subst IsFull (sym e) everything_full) all

  -- ---- sets of possible variables stay so

  end_kept : (m : VariableSet) (e : End) (es : List VariableSet) → AreOfAll es → AreOfAll (end_met c m e es)
  end_kept m (NextState n) es all = all
  end_kept m (Stop at) es all = all
  end_kept m (Join j) es all =
      let n = number_or_zero (connector_at c j.connector) in
      set_kept es n (meet (entry_at es n) m) (meet_kept (entry_at es n) m (all n)) all

  mutual
    pub met_kept : (m : VariableSet) (t : Text) (es : List VariableSet) → AreOfAll es → AreOfAll (met c m t es)
    met_kept m falls es all = all
    met_kept m (ends e) es all = end_kept m e es all
    met_kept m (does a rest) es all = met_kept (action_set c m a) rest es all
    met_kept m (decides at q choice rest) es all =
        met_kept (choice_left c m choice) rest (cond (is_truth c q) (else_met c m choice (answers_met c m choice es)) (answers_met c m choice (else_met c m choice es)))
        (by_sort AreOfAll (is_truth c q) (else_met c m choice (answers_met c m choice es)) (answers_met c m choice (else_met c m choice es))
        (else_kept m choice (answers_met c m choice es) (answers_kept m choice es all))
        (answers_kept m choice (else_met c m choice es) (else_kept m choice es all)))

    answers_kept : (m : VariableSet) (choice : Choice) (es : List VariableSet) → AreOfAll es → AreOfAll (answers_met c m choice es)
    answers_kept m nothing_else es all = all
    answers_kept m (otherwise body) es all = all
    answers_kept m (answer at ranges body others) es all = answers_kept m others (met c m body es) (met_kept m body es all)

    else_kept : (m : VariableSet) (choice : Choice) (es : List VariableSet) → AreOfAll es → AreOfAll (else_met c m choice es)
    else_kept m nothing_else es all = all
    else_kept m (otherwise body) es all = met_kept m body es all
    else_kept m (answer at ranges body others) es all = else_kept m others es all

  connection_kept : (n : ℕ) (es : List VariableSet) → AreOfAll es → AreOfAll (connection_met c n es)
  connection_kept n es all = by_found (slice_get c.process.connections n)
    where
      by_found : (o : Option PlainConnection) → AreOfAll (option_map_or (λ (x : PlainConnection). met c (entry_at es n) x.text es) o es)
      by_found None = all
      by_found (Some x) = met_kept (entry_at es n) x.text es all

  pub connections_kept : (ns : List ℕ) (es : List VariableSet) → AreOfAll es → AreOfAll (connections_met c ns es)
  connections_kept [] es all = all
  connections_kept (n ∷ ns) es all = connection_kept n (connections_met c ns es) (connections_kept ns es all)

-- If there are no entries, a JOIN changes nothing.
pub none_met : (es : List VariableSet) (n : ℕ) (m : VariableSet) → length es ≡ 0 → es ≡ met_at es n m
none_met [] n m e = refl
none_met (x ∷ es) n m e = absurd (let k : ⊥ = cc in k)
