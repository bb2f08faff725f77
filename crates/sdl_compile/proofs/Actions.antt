-- Actions, ends and the places of INPUT: each of their instructions is right.
use Rattle.std.proofs.Common.{◌≡◌, ℕ, zero, suc, ◌+◌, ◌<◌, ◌≤◌, ◌≤ℤ◌, pos, true, false, List, [], ◌∷◌, ◌++◌, length, map, reverse, drop, Option, Some, None, IsSome, refl, sym, ap, ◌∙◌, subst, arith, nat_eq}
use Rattle.std.specs.Prelude.{slice_get, zip}
use Rattle.std.specs.List.{flat_map}
use Rattle.std.specs.Option.{option_to_list}
use Rattle.std.proofs.lemmas.Bool.Decides.{nat_tests}
use Rattle.std.proofs.lemmas.List.{length-map}
use Rattle.std.proofs.lemmas.List.Elements.{All-nil, All-contains}
use mathlib.Core.List.{reverse_aux}
use Rattle.sdl_ast.specs.declared.expression.Identifier.{Identifier}
use Rattle.sdl_ast.specs.declared.tree.Sort as tree_sort
use Rattle.sdl_ast.specs.declared.tree.Sort.TheVariants as tree_sorts
use Rattle.sdl_ast.specs.declared.tree.Destination.{Destination}
use Rattle.sdl_ast.specs.Plain.{Tree, PlainAssignment, PlainSending, PlainAction, task, output, set_timer, reset_timer}
use Rattle.turn_code.specs.declared.value.Sort.{Sort}
use Rattle.turn_code.specs.declared.value.Sort.TheVariants.{Integer}
use Rattle.turn_code.specs.declared.instruction.Receiver.{Receiver}
use Rattle.turn_code.specs.declared.instruction.Instruction.{Instruction}
use Rattle.turn_code.specs.declared.instruction.Instruction.TheVariants as i
use Rattle.turn_code.specs.declared.variable_set.VariableSet.{VariableSet}
use Rattle.turn_code.specs.declared.draft.Draft.{Draft}
use Rattle.turn_code.specs.declared.draft.DraftSignal.{DraftSignal}
use Rattle.turn_code.specs.declared.draft.DraftState.{DraftState}
use Rattle.turn_code.specs.Sets.{Has, IsWithin, with_variable}
use Rattle.turn_code.specs.Code.{sort_at}
use Rattle.turn_code.specs.Transitions.{Transition, parameters_of}
use Rattle.turn_code.specs.Rules.{Agree, ReachesReceiver}
use Rattle.sdl_tables.specs.Names.{Variable, variables_of}
use Rattle.sdl_sound.specs.Actions.{Origin}
use Rattle.sdl_sound.specs.Sorts.{variable_sort, has_sort, have_one_sort, sort_in, misfit, wrong_in, wrong_variable, wrong_assignment, parameter_sorts, wrong_parameter, wrong_number, wrong_sending, wrong_action, wrong_place}
use Rattle.sdl_sound.specs.Divisors.{bad_divisors_in, action_divisors}
use Rattle.sdl_sound.specs.Receivers.{arrives, lost_sending, lost_action, is_doubtful, doubtful_sending, doubtful_action}
use Rattle.sdl_meaning.specs.Outcomes.{Scope, variable_at, state_at, timer_at, signal_at}
use Rattle.sdl_meaning.specs.Code.{number_or_zero, next, set_to, reset, put, store, tasks_code, receiver_code, sendings_code, action_code, places_code}
use Rattle.sdl_meaning.specs.Named.{NamedTasks, NamedSendings, NamedAction, NamedPlaces}
use Rattle.sdl_meaning.specs.Declarations.{sort_of_tree}
use Rattle.sdl_compile.specs.Reads.{ReadTasks, ReadSendings, ReadAction}
use Rattle.sdl_meaning.proofs.Sorting.{fits, has_this, passed, variable_has_sort}
use Rattle.sdl_compile.proofs.Straight.{AreRight}
use Rattle.sdl_compile.proofs.PlaceStretches.{right_joined}
use Rattle.sdl_compile.proofs.Shapes.{Counted, CountedAction, sort_given, trees_shape, this_sort, tree_leads, trees_leads, put_out, variable_store, param_leads}
use Rattle.sdl_compile.proofs.Rights.{one_of, none_in, store_right, tree_right, trees_right}
use Rattle.sdl_meaning.proofs.Numbers.{not_marked as not_flagged}
use Rattle.plain_laws.proofs.Lists.{append-nil_left as nil_front, append-nil_right as nil_back}

agree_same : (xs : List Sort) → Agree xs xs
agree_same [] = tt
agree_same (x ∷ xs) = (refl, agree_same xs)

shape_is : (c : Scope) (ts : List Tree) (s : List Sort) → trees_shape c ts s ≡ reverse_aux (map (sort_given c) ts) s
shape_is c [] s = refl
shape_is c (t ∷ ts) s = shape_is c ts (sort_given c t ∷ s)

-- A sending has as many parameters as its signal.
pub as_many : (sorts : List tree_sort.Sort) (x : PlainSending) → wrong_number sorts x ≡ [] → length sorts ≡ length x.parameters
as_many sorts x e =
    let f = passed (nat_eq (length sorts) (length x.parameters)) x.signal.at e in
    grind (arith, nat_tests)

-- The head of what is left of a list after j items.
drop_head : (ps : List Sort) (j : ℕ) (x : Sort) (rest : List Sort) → drop j ps ≡ x ∷ rest → (slice_get ps j ≡ Some x) × (drop (suc j) ps ≡ rest)
drop_head [] zero x rest e = absurd (let k : ⊥ = cc in k)
drop_head [] (suc j) x rest e = absurd (let k : ⊥ = cc in k)
drop_head (p ∷ ps) zero x rest e = (let f : p ≡ x = cc in ap Some f, let g : ps ≡ rest = cc in g)
drop_head (p ∷ ps) (suc j) x rest e = drop_head ps j x rest e

there_within : (ps : List Sort) (j : ℕ) (x : Sort) → slice_get ps j ≡ Some x → j < length ps
there_within [] j x e = absurd (let k : ⊥ = cc in k)
there_within (p ∷ ps) zero x e = omega arith
there_within (p ∷ ps) (suc j) x e = let h = there_within ps j x e in omega (arith, h)

-- The meanings of the names of a scope in a transition of a draft.
pub record Stands (c : Scope) (d : Draft) (t : Transition) : Type 0 where
  pub sorted : (n : Identifier) (r : tree_sort.Sort) → IsSome (variable_at c n) → variable_sort (variables_of c.process) n.name ≡ Some r → sort_at t.process.variables (number_or_zero (variable_at c n)) ≡ sort_of_tree r ∷ []
  pub variables : (n : Identifier) → IsSome (variable_at c n) → number_or_zero (variable_at c n) < length t.process.variables
  pub states : (n : Identifier) → IsSome (state_at c n) → number_or_zero (state_at c n) < length t.process.states
  pub timers : (n : Identifier) → IsSome (timer_at c n) → number_or_zero (timer_at c n) < length t.process.timers
  pub signals : (n : Identifier) → IsSome (signal_at c n) → number_or_zero (signal_at c n) < length d.signals
  pub parameters : (n : Identifier) → IsSome (signal_at c n) → parameters_of (slice_get d.signals (number_or_zero (signal_at c n))) ≡ map sort_of_tree (parameter_sorts c.block n.name)

-- A signal that reaches exactly one party has this party as the receiver in its instruction.
abbrev pub Reaching : Scope → Draft → Transition → List Origin → Type 0
Reaching c d t is =
    (to : Option Destination) (n : Identifier) → IsSome (signal_at c n) → arrives c.block c.process is to n.name ≡ true → is_doubtful c.block c.process to n.name ≡ false
    → ReachesReceiver d t.number (record { 0 = number_or_zero (signal_at c n) }) t.trigger (receiver_code c to n)

module _ (c : Scope) (ss : List DraftSignal)
    (parameters : (n : Identifier) → IsSome (signal_at c n) → parameters_of (slice_get ss (number_or_zero (signal_at c n))) ≡ map sort_of_tree (parameter_sorts c.block n.name)) where
  counted_sendings : (to : Option Destination) (list : List PlainSending) → NamedSendings c to list → flat_map (wrong_sending c.block (variables_of c.process)) list ≡ [] → Counted c ss list
  counted_sendings to [] named w = tt
  counted_sendings to (x ∷ rest) named w =
      let vs = variables_of c.process in
      let sorts = parameter_sorts c.block x.signal.name in
      let others = flat_map (wrong_in vs) x.parameters ++ flat_map (wrong_parameter vs) (zip sorts x.parameters) in
      let first = nil_front (wrong_sending c.block vs x) (flat_map (wrong_sending c.block vs) rest) w in
      let many = as_many sorts x (nil_front (wrong_number sorts x) others first) in
      let e = ap length (parameters x.signal named.0.signal) in
      let l = length-map sorts sort_of_tree in
      (omega (arith, many, e, l), counted_sendings to rest named.1 (nil_back (wrong_sending c.block vs x) (flat_map (wrong_sending c.block vs) rest) w))

  pub counted_action : (a : PlainAction) → NamedAction c a → wrong_action c.block (variables_of c.process) a ≡ [] → CountedAction c ss a
  counted_action (task at ts) named w = tt
  counted_action (output at list to) named w = counted_sendings to list named w
  counted_action (set_timer at u n) named w = tt
  counted_action (reset_timer at n) named w = tt

module _ (c : Scope) (d : Draft) (t : Transition) (stands : Stands c d t) (is : List Origin) (reaching : Reaching c d t is) where
  abbrev vs : List Variable
  vs = variables_of c.process

  abbrev S : List Sort → VariableSet → List Instruction → Type 0
  S s m code = AreRight d t s m code

  pub params_fit : (sorts : List tree_sort.Sort) (ts : List Tree) → length sorts ≡ length ts → flat_map (wrong_parameter vs) (zip sorts ts) ≡ [] → map sort_of_tree sorts ≡ map (sort_given c) ts
  params_fit [] [] l w = refl
  params_fit [] (u ∷ ts) l w = absurd (omega arith)
  params_fit (r ∷ sorts) [] l w = absurd (omega arith)
  params_fit (r ∷ sorts) (u ∷ ts) l w =
      let rest = flat_map (wrong_parameter vs) (zip sorts ts) in
      let e = fits vs r u (nil_front (misfit vs (Some r) u) rest w) in
      let f : sort_of_tree r ≡ sort_given c u = this_sort c d.signals t.process.variables t.parameters stands.sorted u r e in
      let g = params_fit sorts ts (omega (arith, l)) (nil_back (misfit vs (Some r) u) rest w) in
      ap (λ r. r ∷ map sort_of_tree sorts) f ∙ ap (λ l. sort_given c u ∷ l) g

  put_right : (x : PlainSending) (r : Receiver) (m : VariableSet) → IsSome (signal_at c x.signal) → length (parameter_sorts c.block x.signal.name) ≡ length x.parameters
      → map sort_of_tree (parameter_sorts c.block x.signal.name) ≡ map (sort_given c) x.parameters → ReachesReceiver d t.number (record { 0 = number_or_zero (signal_at c x.signal) }) t.trigger r
      → S (trees_shape c x.parameters []) m (put (number_or_zero (signal_at c x.signal)) r (length x.parameters) ∷ [])
  put_right x r m some many sorts reach =
      let n = number_or_zero (signal_at c x.signal) in
      let params = parameters_of (slice_get d.signals n) in
      let e : params ≡ map (sort_given c) x.parameters = stands.parameters x.signal some ∙ sorts in
      let shape : reverse params ≡ trees_shape c x.parameters [] = ap reverse e ∙ sym (shape_is c x.parameters []) in
      let l = ap length e in
      let k = length-map x.parameters (sort_given c) in
      let size = ap length shape in (
        record {
          under = omega (arith, size);
          sort = subst (Agree (reverse params)) shape (agree_same (reverse params));
          reads_set = All-nil (Has m);
          states = λ n st h. none_in n h;
          states_there = All-nil (λ q. q < length t.process.states);
          reads_there = All-nil (λ v. v < length t.process.variables);
          sets_there = All-nil (λ v. v < length t.process.variables);
          parameters = All-nil (λ j. j < length t.parameters);
          timers = All-nil (λ n. n < length t.process.timers);
          divisors = All-nil (λ z. pos 1 ≤ℤ z);
          outputs = record { signal = stands.signals x.signal some; parameters = omega (arith, l, k); receiver = reach };
        },
        tt,
      )

  sendings_right : (to : Option Destination) (list : List PlainSending) (m : VariableSet) → NamedSendings c to list → flat_map (wrong_sending c.block vs) list ≡ [] → flat_map (λ s. flat_map bad_divisors_in s.parameters) list ≡ []
      → flat_map (lost_sending c.block c.process is to) list ≡ [] → flat_map (doubtful_sending c.block c.process to) list ≡ [] → ReadSendings c m list → S [] m (sendings_code c to list)
  sendings_right to [] m named w b l two read = tt
  sendings_right to (x ∷ rest) m named w b l two read =
      let sorts = parameter_sorts c.block x.signal.name in
      let ts = x.parameters in
      let n = number_or_zero (signal_at c x.signal) in
      let f = wrong_sending c.block vs in
      let first = nil_front (f x) (flat_map f rest) w in
      let inside = flat_map (wrong_in vs) ts in
      let misplaced = flat_map (wrong_parameter vs) (zip sorts ts) in
      let others = nil_back (wrong_number sorts x) (inside ++ misplaced) first in
      let many = as_many sorts x (nil_front (wrong_number sorts x) (inside ++ misplaced) first) in
      let div : PlainSending → List ℕ = λ s. flat_map bad_divisors_in s.parameters in
      let lost = lost_sending c.block c.process is to in
      let doubt = doubtful_sending c.block c.process to in
      let gets = passed (arrives c.block c.process is to x.signal.name) x.signal.at (nil_front (lost x) (flat_map lost rest) l) in
      let sure = not_flagged (is_doubtful c.block c.process to x.signal.name) x.signal.at (nil_front (doubt x) (flat_map doubt rest) two) in
      let r = receiver_code c to x.signal in
      let e = ap length (stands.parameters x.signal named.0.signal) in
      let k = length-map sorts sort_of_tree in
      right_joined d t (put n r (length ts) ∷ sendings_code c to rest) (trees_leads c d.signals t.process.variables t.parameters stands.sorted ts [] m named.0.parameters)
      (trees_right c d t stands.sorted stands.variables ts [] m named.0.parameters (nil_front inside misplaced others) (nil_front (div x) (flat_map div rest) b) read.0)
      (right_joined d t (sendings_code c to rest) (put_out c d.signals t.process.variables t.parameters stands.sorted n r ts m (omega (arith, many, e, k)))
      (put_right x r m named.0.signal many (params_fit sorts ts many (nil_back inside misplaced others)) (reaching to x.signal named.0.signal gets sure))
      (sendings_right to rest m named.1 (nil_back (f x) (flat_map f rest) w) (nil_back (div x) (flat_map div rest) b) (nil_back (lost x) (flat_map lost rest) l) (nil_back (doubt x) (flat_map doubt rest) two) read.1))

  tasks_right : (ts : List PlainAssignment) (m : VariableSet) → NamedTasks c ts → flat_map (wrong_assignment vs) ts ≡ [] → flat_map (λ a. bad_divisors_in a.value) ts ≡ [] → ReadTasks c m ts → S [] m (tasks_code c ts)
  tasks_right [] m named w b read = tt
  tasks_right (a ∷ ts) m named w b read =
      let v = number_or_zero (variable_at c a.variable) in
      let h = variable_has_sort vs a.variable.name named.1 in
      let f = wrong_assignment vs in
      let first = nil_front (f a) (flat_map f ts) w in
      let div : PlainAssignment → List ℕ = λ a. bad_divisors_in a.value in
      let same = passed (have_one_sort (variable_sort vs a.variable.name) (sort_in vs a.value)) a.variable.at (nil_back (wrong_in vs a.value) (wrong_variable vs a) first) in
      let e = has_this h.sort (sort_in vs a.value) (ap (λ o. have_one_sort o (sort_in vs a.value)) (sym h.is) ∙ same) in
      let r = sort_of_tree h.sort in
      right_joined d t (store v ∷ tasks_code c ts) (tree_leads c d.signals t.process.variables t.parameters stands.sorted a.value h.sort [] m named.0 e)
      (tree_right c d t stands.sorted stands.variables a.value [] m named.0 (nil_front (wrong_in vs a.value) (wrong_variable vs a) first) (nil_front (div a) (flat_map div ts) b) read.0)
      (right_joined d t (tasks_code c ts) (variable_store c d.signals t.process.variables t.parameters stands.sorted a.variable r [] m named.1)
      (store_right c d t stands.sorted stands.variables v r [] m (stands.variables a.variable named.1) (stands.sorted a.variable h.sort named.1 h.is))
      (tasks_right ts (with_variable m v) named.2 (nil_back (f a) (flat_map f ts) w) (nil_back (div a) (flat_map div ts) b) read.1))

  set_right : (n : ℕ) (m : VariableSet) → n < length t.process.timers → S (Integer ∷ []) m (set_to n ∷ [])
  set_right n m lt = (
    record {
      under = omega arith;
      sort = (refl, tt);
      reads_set = All-nil (Has m);
      states = λ n st h. none_in n h;
      states_there = All-nil (λ q. q < length t.process.states);
      reads_there = All-nil (λ v. v < length t.process.variables);
      sets_there = All-nil (λ v. v < length t.process.variables);
      parameters = All-nil (λ j. j < length t.parameters);
      timers = one_of (λ n. n < length t.process.timers) n lt;
      divisors = All-nil (λ z. pos 1 ≤ℤ z);
      outputs = tt;
    },
    tt,
  )

  reset_right : (n : ℕ) (m : VariableSet) → n < length t.process.timers → S [] m (reset n ∷ [])
  reset_right n m lt = (
    record {
      under = omega arith;
      sort = tt;
      reads_set = All-nil (Has m);
      states = λ n st h. none_in n h;
      states_there = All-nil (λ q. q < length t.process.states);
      reads_there = All-nil (λ v. v < length t.process.variables);
      sets_there = All-nil (λ v. v < length t.process.variables);
      parameters = All-nil (λ j. j < length t.parameters);
      timers = one_of (λ n. n < length t.process.timers) n lt;
      divisors = All-nil (λ z. pos 1 ≤ℤ z);
      outputs = tt;
    },
    tt,
  )

  pub action_right : (a : PlainAction) (m : VariableSet) → NamedAction c a → wrong_action c.block vs a ≡ [] → action_divisors a ≡ [] → lost_action c.block c.process is a ≡ [] → doubtful_action c.block c.process a ≡ [] → ReadAction c m a → S [] m (action_code c a)
  action_right (task at ts) m named w b l two read = tasks_right ts m named w b read
  action_right (output at list to) m named w b l two read = sendings_right to list m named w b l two read
  action_right (set_timer at u n) m named w b l two read =
      let e = fits vs tree_sorts.Integer u (nil_back (wrong_in vs u) (misfit vs (Some tree_sorts.Integer) u) w) in
      right_joined d t (set_to (number_or_zero (timer_at c n)) ∷ []) (tree_leads c d.signals t.process.variables t.parameters stands.sorted u tree_sorts.Integer [] m named.0 e)
      (tree_right c d t stands.sorted stands.variables u [] m named.0 (nil_front (wrong_in vs u) (misfit vs (Some tree_sorts.Integer) u) w) b read)
      (set_right (number_or_zero (timer_at c n)) m (stands.timers n named.1))
  action_right (reset_timer at n) m named w b l two read = reset_right (number_or_zero (timer_at c n)) m (stands.timers n named)

  pub next_right : (q : ℕ) (m : VariableSet) → q < length t.process.states → ((s : DraftState) → slice_get t.process.states q ≡ Some s → IsWithin s.set m) → S [] m (next q ∷ [])
  next_right q m lt h =
      let P : ℕ → Type 0 = λ q. (s : DraftState) → slice_get t.process.states q ≡ Some s → IsWithin s.set m in (
        record {
          under = omega arith;
          sort = tt;
          reads_set = All-nil (Has m);
          states = λ n st k. All-contains P (q ∷ []) n (one_of P q h) k st;
          states_there = one_of (λ q. q < length t.process.states) q lt;
          reads_there = All-nil (λ v. v < length t.process.variables);
          sets_there = All-nil (λ v. v < length t.process.variables);
          parameters = All-nil (λ j. j < length t.parameters);
          timers = All-nil (λ n. n < length t.process.timers);
          divisors = All-nil (λ z. pos 1 ≤ℤ z);
          outputs = tt;
        },
        tt,
      )

  pub stop_right : (m : VariableSet) → S [] m (i.Stop ∷ [])
  stop_right m = (
    record {
      under = omega arith;
      sort = tt;
      reads_set = All-nil (Has m);
      states = λ n st h. none_in n h;
      states_there = All-nil (λ q. q < length t.process.states);
      reads_there = All-nil (λ v. v < length t.process.variables);
      sets_there = All-nil (λ v. v < length t.process.variables);
      parameters = All-nil (λ j. j < length t.parameters);
      timers = All-nil (λ n. n < length t.process.timers);
      divisors = All-nil (λ z. pos 1 ≤ℤ z);
      outputs = tt;
    },
    tt,
  )

  param_right : (j : ℕ) (m : VariableSet) → j < length t.parameters → S [] m (i.Param j ∷ [])
  param_right j m lt = (
    record {
      under = omega arith;
      sort = tt;
      reads_set = All-nil (Has m);
      states = λ n st h. none_in n h;
      states_there = All-nil (λ q. q < length t.process.states);
      reads_there = All-nil (λ v. v < length t.process.variables);
      sets_there = All-nil (λ v. v < length t.process.variables);
      parameters = one_of (λ j. j < length t.parameters) j lt;
      timers = All-nil (λ n. n < length t.process.timers);
      divisors = All-nil (λ z. pos 1 ≤ℤ z);
      outputs = tt;
    },
    tt,
  )

  pub places_right : (places : List (Option Identifier)) (sorts : List tree_sort.Sort) (j : ℕ) (m : VariableSet) → NamedPlaces c places → length places ≤ length sorts → drop j t.parameters ≡ map sort_of_tree sorts
      → flat_map (wrong_place vs) (zip sorts places) ≡ [] → S [] m (places_code c j places)
  places_right [] sorts j m named le at w = tt
  places_right (place ∷ places) [] j m named le at w = absurd (omega (arith, le))
  places_right (None ∷ places) (r ∷ sorts) j m named le at w =
      let h = drop_head t.parameters j (sort_of_tree r) (map sort_of_tree sorts) at in
      let n : suc j ≡ j + 1 = omega arith in
      places_right places sorts (j + 1) m named (omega (arith, le)) (subst (λ n. drop n t.parameters ≡ map sort_of_tree sorts) n h.1) w
  places_right (Some x ∷ places) (r ∷ sorts) j m named le at w =
      let h = drop_head t.parameters j (sort_of_tree r) (map sort_of_tree sorts) at in
      let n : suc j ≡ j + 1 = omega arith in
      let v = number_or_zero (variable_at c x) in
      let rest = flat_map (wrong_place vs) (zip sorts places) in
      let here = has_this r (variable_sort vs x.name) (passed (has_sort r (variable_sort vs x.name)) x.at (nil_front (wrong_place vs (r, Some x)) rest w)) in
      let s = sort_of_tree r in
      right_joined d t (store v ∷ places_code c (j + 1) places) (param_leads c d.signals t.process.variables t.parameters stands.sorted j m s (ap option_to_list h.0))
      (param_right j m (there_within t.parameters j s h.0))
      (right_joined d t (places_code c (j + 1) places) (variable_store c d.signals t.process.variables t.parameters stands.sorted x s [] m named.0)
      (store_right c d t stands.sorted stands.variables v s [] m (stands.variables x named.0) (stands.sorted x r named.0 here))
      (places_right places sorts (j + 1) (with_variable m v) named.1 (omega (arith, le)) (subst (λ n. drop n t.parameters ≡ map sort_of_tree sorts) n h.1) (nil_back (wrong_place vs (r, Some x)) rest w)))
