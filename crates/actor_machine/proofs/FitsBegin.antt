-- A turn that begins has an input that fits it, and a skip leaves all fitting.
use Rattle.std.proofs.Common.{◌≡◌, ℕ, Bool, true, false, cond, List, [], ◌∷◌, Option, Some, None, refl, sym, ap, ◌∙◌, subst, eqb-true}
use Rattle.std.specs.Prelude.{slice_get, option_map, IfSome}
use Rattle.std.specs.List.{AllByRecursion}
use Rattle.std.proofs.lemmas.Option.{same_Some, none-some}
use Rattle.std.proofs.lemmas.Bool.{false≢true}
use Rattle.turn_code.specs.Transitions.{Transition, transition_at, process_at, input_at, start_of, input_of, trigger_parameters}
use Rattle.turn_code.specs.Valid.{IsValid}
use Rattle.turn_code.specs.Fits.{HaveSorts, FitsTransition, Fits}
use Rattle.turn_code.specs.Start.{StartLaw}
use Rattle.turn_code.specs.declared.numbers.StateNumber.{StateNumber}
use Rattle.turn_code.specs.declared.input.Place.TheVariants.{Start, State}
use Rattle.turn_code.specs.declared.draft.Draft.{Draft}
use Rattle.turn_code.specs.declared.draft.DraftProcess.{DraftProcess}
use Rattle.turn_code.specs.declared.draft.DraftState.{DraftState}
use Rattle.turn_code.specs.declared.draft.DraftInput.{DraftInput}
use Rattle.turn_code.specs.declared.draft.Trigger.{Trigger}
use Rattle.turn_code.specs.declared.draft.Trigger.TheVariants as trigger
use Rattle.turn_check.specs.Answered.{same_trigger}
use Rattle.turn_check.specs.Named.{states_of, inputs_of, inputs_at}
use Rattle.input_port.specs.Queue.{first_unsaved, without_first}
use Rattle.input_port.specs.declared.queue.Item.{Item}
use Rattle.input_port.specs.declared.queue.Item.TheVariants.{Signal, Timer}
use Rattle.actor_machine.specs.Looking.{trigger_of, is_saved, input_for, item_at, left_at, as_input, found_item, found_at, looks, first_input, input_with, number_in, given_now, begun, skipped}
use Rattle.actor_machine.specs.Fits.{ItemFits, IsSender, IsReadyAt, StandingFits, GivenFits}
use Rattle.actor_machine.specs.Laws.{ItemLaw}
use Rattle.actor_machine.specs.Refusals.{is_nothing, is_ignored}
use Rattle.actor_machine.specs.declared.actor.Actor.{Actor}
use Rattle.actor_machine.specs.declared.actor.Standing.{Standing}
use Rattle.actor_machine.specs.declared.actor.Standing.TheVariants.{At, Stopped}
use Rattle.actor_machine.proofs.FitsLists.{NamesStay, found_first}
use Rattle.actor_machine.proofs.FitsActors.{Sits, Rests, with_items}

-- ---- the item that is taken

-- the first item that isn't saved is one of the items
first_fits : (P : Item → Type 0) (saved : Item → Bool) (xs : List Item) (x : Item) → AllByRecursion P xs → first_unsaved saved xs ≡ Some x → P x
first_fits P saved [] x all e = absurd (none-some x e)
first_fits P saved (y ∷ xs) x all e =
    elim (saved y) as (λ b. cond b (first_unsaved saved xs) (Some y) ≡ Some x → P x) [
      | true ↦ λ e. first_fits P saved xs x all.1 e
      | false ↦ λ e. subst P (same_Some y x e) all.0
    ] e

left_fits : (P : Item → Type 0) (saved : Item → Bool) (xs : List Item) → AllByRecursion P xs → AllByRecursion P (without_first saved xs)
left_fits P saved [] all = tt
left_fits P saved (y ∷ xs) all =
    elim (saved y) as (λ b. AllByRecursion P (cond b (y ∷ without_first saved xs) xs)) [
      | true ↦ (all.0, left_fits P saved xs all.1)
      | false ↦ all.1
    ]

pub all_left : (P : Item → Type 0) (d : Draft) (n : ℕ) (s : Standing) (xs : List Item) → AllByRecursion P xs → AllByRecursion P (left_at d n s xs)
all_left P d n (At (State q)) xs all = left_fits P (is_saved d n q.0) xs all
all_left P d n (At Start) xs all = all
all_left P d n Stopped xs all = all

one_trigger : (x y : Trigger) → same_trigger x y ≡ true → x ≡ y
one_trigger (trigger.Signal m) (trigger.Signal n) e = ap (λ (k : ℕ). trigger.Signal (record { 0 = k })) (eqb-true m.0 n.0 e)
one_trigger (trigger.Signal m) (trigger.Timer n) e = absurd (false≢true e)
one_trigger (trigger.Timer m) (trigger.Signal n) e = absurd (false≢true e)
one_trigger (trigger.Timer m) (trigger.Timer n) e = ap (λ (k : ℕ). trigger.Timer (record { 0 = k })) (eqb-true m.0 n.0 e)

-- ---- the input of the turn

module _ (d : Draft) (n : ℕ) (a : Actor) (p : DraftProcess) (there : slice_get d.processes n ≡ Some p) (sorts : HaveSorts p.variables a.variables.items) where
  -- the transition of state q for an input with this trigger
  abbrev waiting : DraftState → DraftInput → Trigger → Transition
  waiting q y x = record { number = n; process = p; trigger = Some x; parameters = trigger_parameters d.signals x; entry = q.set; piece = y.piece }

  item_given : (q : ℕ) (ready : IsReadyAt p q a.variables.items) (y : DraftInput) (x : Item) → ItemFits d n p x
      → FitsTransition d (waiting ready.state y (trigger_of x)) (input_with a (Some x))
  item_given q ready y (Signal arrival) arrived = record { parameters = arrived.sorts; variables = sorts; set = ready.set; brought = arrived.brought }
  item_given q ready y (Timer timer) within = record { parameters = refl; variables = sorts; set = ready.set; brought = tt }

  pub input_given : (q : StateNumber) (ready : IsReadyAt p q.0 a.variables.items) (x : Item) (i : ℕ) → ItemFits d n p x → input_for d n q.0 x ≡ Some i
      → Fits d n (State q) i (input_with a (Some x))
  input_given q ready x i fits e =
      let found = found_first (λ (y : DraftInput). same_trigger y.trigger (trigger_of x)) (inputs_at d n q.0) i e in
      let y : DraftInput = found.0 in
      let inputs : inputs_at d n q.0 ≡ ready.state.inputs = ap (λ o. inputs_of (slice_get (states_of o) q.0)) there ∙ ap inputs_of ready.there in
      let at : slice_get ready.state.inputs i ≡ Some y = ap (λ ys. slice_get ys i) (sym inputs) ∙ found.1 in
      record {
        transition = input_of d.signals n p ready.state y;
        there = ap (process_at d.signals n (State q) i) there ∙ ap (input_at d.signals n p i) ready.there ∙ ap (option_map (input_of d.signals n p ready.state)) at;
        fits = subst (λ z. FitsTransition d (waiting ready.state y z) (input_with a (Some x))) (sym (one_trigger y.trigger (trigger_of x) found.2)) (item_given q.0 ready y x fits);
      }

  -- an input of the state that waits for the item fits it
  pub waiting_given : (q : StateNumber) (ready : IsReadyAt p q.0 a.variables.items) (x : Item) (i : ℕ) (t : Transition) → ItemFits d n p x
      → transition_at d n (State q) i ≡ Some t → t.trigger ≡ Some (trigger_of x) → FitsTransition d t (input_with a (Some x))
  waiting_given q ready x i t fits e same =
      by (slice_get ready.state.inputs i)
      (sym (ap (input_at d.signals n p i) ready.there) ∙ sym (ap (process_at d.signals n (State q) i) there) ∙ e)
    where
      of : (y : DraftInput) → input_of d.signals n p ready.state y ≡ t → FitsTransition d t (input_with a (Some x))
      of y is =
          let waits : y.trigger ≡ trigger_of x = same_Some y.trigger (trigger_of x) (ap (λ (u : Transition). u.trigger) is ∙ same) in
          subst (λ u. FitsTransition d u (input_with a (Some x))) is
          (subst (λ z. FitsTransition d (waiting ready.state y z) (input_with a (Some x))) (sym waits) (item_given q.0 ready y x fits))

      by : (o : Option DraftInput) → option_map (input_of d.signals n p ready.state) o ≡ Some t → FitsTransition d t (input_with a (Some x))
      by None h = absurd (none-some t h)
      by (Some y) h = of y (same_Some (input_of d.signals n p ready.state y) t h)

pub item_law : ItemLaw
item_law = record {
  each = λ d n p a x q i t there sorts fits ready e same. waiting_given d n a p there sorts q ready x i t fits e same;
  first = λ d n p a x q i there sorts fits ready e. input_given d n a p there sorts q ready x i fits e;
}

module _ (start_fits : StartLaw) (d : Draft) (valid : IsValid d) (n : ℕ) (a : Actor) (p : DraftProcess) (there : slice_get d.processes n ≡ Some p)
    (sorts : HaveSorts p.variables a.variables.items) where
  start_given : StandingFits p (At Start) a.variables.items → Fits d n Start 0 (first_input a)
  start_given initial =
      let is : transition_at d n Start 0 ≡ Some (start_of n p) = ap (process_at d.signals n Start 0) there in
      record {
        transition = start_of n p;
        there = is;
        fits = start_fits d n 0 (start_of n p) (first_input a) valid is (record { variables = initial; parameters = refl });
      }

  state_given : (q : StateNumber) → IsReadyAt p q.0 a.variables.items → (o : Option Item) → ((x : Item) → o ≡ Some x → ItemFits d n p x)
      → is_nothing (found_item d n q.0 o) ≡ false → is_ignored (found_item d n q.0 o) ≡ false → Fits d n (State q) (number_in (found_item d n q.0 o)) (input_with a o)
  state_given q ready None fits something heard = absurd (false≢true (sym something))
  state_given q ready (Some x) fits something heard = by (input_for d n q.0 x) refl heard
    where
      by : (o : Option ℕ) → input_for d n q.0 x ≡ o → is_ignored (as_input o) ≡ false → Fits d n (State q) (number_in (as_input o)) (input_with a (Some x))
      by None e heard = absurd (false≢true (sym heard))
      by (Some i) e heard = input_given d n a p there sorts q ready x i (fits x refl) e

  turn_given : (turn : ℕ) (xs : List Item) (s : Standing) → AllByRecursion (ItemFits d n p) xs → StandingFits p s a.variables.items
      → is_nothing (found_at d n s xs) ≡ false → is_ignored (found_at d n s xs) ≡ false
      → GivenFits d n s (Some (record { turn = turn; number = number_in (found_at d n s xs); input = input_with a (item_at d n s xs) }))
  turn_given turn xs Stopped all stands something heard = absurd (false≢true (sym something))
  turn_given turn xs (At Start) all stands something heard = start_given stands
  turn_given turn xs (At (State q)) all stands something heard =
      state_given q stands (first_unsaved (is_saved d n q.0) xs) (λ x e. first_fits (ItemFits d n p) (is_saved d n q.0) xs x all e) something heard

-- ---- the sender of the item

item_by : (d : Draft) (n : ℕ) (p : DraftProcess) (a : Actor) (o : Option Item) → ((x : Item) → o ≡ Some x → ItemFits d n p x) → IfSome (input_with a o).sender (IsSender d)
item_by d n p a None fits = tt
item_by d n p a (Some (Signal arrival)) fits = (fits (Signal arrival) refl).sender
item_by d n p a (Some (Timer timer)) fits = tt

taken_by : (d : Draft) (n : ℕ) (p : DraftProcess) (a : Actor) (s : Standing) (xs : List Item) → AllByRecursion (ItemFits d n p) xs
    → IfSome (input_with a (item_at d n s xs)).sender (IsSender d)
taken_by d n p a (At (State q)) xs all =
    item_by d n p a (first_unsaved (is_saved d n q.0) xs) (λ x e. first_fits (ItemFits d n p) (is_saved d n q.0) xs x all e)
taken_by d n p a (At Start) xs all = tt
taken_by d n p a Stopped xs all = tt

-- ---- the actor after it

pub sits_begun : StartLaw → (d : Draft) → IsValid d → (n turn : ℕ) (a : Actor) → Sits d (Rests d) n a → is_nothing (looks d a) ≡ false → is_ignored (looks d a) ≡ false
    → Sits d (Rests d) n (begun d turn a)
unfolding looks given_now begun
sits_begun start_fits d valid n turn a h something heard =
    let p = a.name.process.0 in
    record {
      process = h.process;
      there = h.there;
      variables = h.variables;
      rest = (
        h.rest.0,
        turn_given start_fits d valid p a h.process h.there h.variables turn a.port.items a.standing h.items h.rest.0 something heard,
        taken_by d p h.process a a.standing a.port.items h.items,
      );
      items = all_left (ItemFits d p h.process) d p a.standing a.port.items h.items;
    }

pub sits_skipped : (d : Draft) (n : ℕ) (a : Actor) → Sits d (Rests d) n a → Sits d (Rests d) n (skipped d a)
unfolding skipped
sits_skipped d n a h =
    let p = a.name.process.0 in
    with_items d (Rests d) n a h (left_at d p a.standing a.port.items) (all_left (ItemFits d p h.process) d p a.standing a.port.items h.items)

pub begun_stays : (d : Draft) (turn : ℕ) → NamesStay (begun d turn)
unfolding NamesStay begun
begun_stays d turn a = refl

pub skipped_stays : (d : Draft) → NamesStay (skipped d)
unfolding NamesStay skipped
skipped_stays d a = refl
