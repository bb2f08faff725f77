-- What an actor finds in its port is what the INPUTs and SAVEs of the text say.
use Rattle.std.proofs.Common.{◌≡◌, ℕ, zero, suc, ◌+◌, ◌<◌, ◌||◌, Bool, true, false, not, cond, List, [], ◌∷◌, map, length, Option, Some, None, refl, sym, ap, ◌∙◌, subst, arith, lt-ltb}
use Rattle.std.specs.Prelude.{nat_lt, slice_get, get_or, position}
use Rattle.std.specs.List.{AllByRecursion, AllZip, list_any, enumerate_from, position_or_len}
use Rattle.std.proofs.lemmas.Bool.Decides.{eqb_tells}
use Rattle.std.proofs.lemmas.List.Quantifiers.{position-Some}
use Rattle.std.proofs.lemmas.Option.{same_Some, none-some, get_or_from_slice_get}
use Rattle.plain_laws.proofs.Searches.{first_within}
use Rattle.sdl_ast.specs.Plain.{PlainBlock, PlainProcess, PlainState}
use Rattle.sdl_ast.specs.declared.expression.Identifier.{Identifier}
use Rattle.sdl_tables.specs.Names.{Input, processes_of, states_of, of_state, by_state, part_inputs, part_saves, inputs_of, saves_of, inputs_by_state, saves_by_state}
use Rattle.sdl_meaning.specs.Act.{scope_of}
use Rattle.sdl_meaning.specs.Outcomes.{Scope}
use Rattle.sdl_meaning.specs.Declarations.{trigger_of as trigger_named}
use Rattle.sdl_compile.specs.Blocks.{MatchesBlock}
use Rattle.sdl_compile.specs.Drafts.{MatchesProcess, MatchesInput, MatchesInputs, SavesAll}
use Rattle.sdl_compile.proofs.Meaning.{Paired, paired}
use Rattle.turn_code.specs.declared.draft.Draft.{Draft}
use Rattle.turn_code.specs.declared.draft.DraftInput.{DraftInput}
use Rattle.turn_code.specs.declared.draft.DraftProcess.{DraftProcess}
use Rattle.turn_code.specs.declared.draft.DraftState.{DraftState}
use Rattle.turn_code.specs.declared.draft.Trigger.{Trigger}
use Rattle.turn_code.specs.declared.draft.Trigger.TheVariants as trigger
use Rattle.turn_code.specs.declared.input.Place.TheVariants.{Start, State}
use Rattle.turn_code.specs.declared.numbers.StateNumber.{StateNumber}
use Rattle.turn_check.specs.Answered.{same_trigger}
use Rattle.turn_check.specs.Named.{inputs_at, saves_at, states_of as draft_states, inputs_of as draft_inputs, saves_of as draft_saves}
use Rattle.input_port.specs.Queue.{first_unsaved, without_first, Takes}
use Rattle.input_port.specs.declared.queue.Item.{Item}
use Rattle.input_port.proofs.Places.{Takes-first}
use Rattle.actor_machine.proofs.FitsLists.{found_first}
use Rattle.actor_machine.specs.Fits.{ActorFits, StandingFits, IsReadyAt}
use Rattle.actor_machine.specs.Looking.{trigger_of, is_saved, input_for, found_at, found_item, as_input, item_at, left_at, looks, number_in, input_with, begun, given_now, skipped}
use Rattle.actor_machine.specs.Refusals.{is_nothing, is_ignored}
use Rattle.actor_machine.specs.Step.{begun_now, place_of, skip_reply_of}
use Rattle.actor_machine.specs.declared.actor.Actor.{Actor}
use Rattle.actor_machine.specs.declared.actor.Standing.{Standing}
use Rattle.actor_machine.specs.declared.actor.Standing.TheVariants.{At, Stopped}
use Rattle.actor_machine.specs.declared.found.Found.{Found}
use Rattle.actor_machine.specs.declared.reply.Begun.{Begun}
use Rattle.actor_machine.specs.declared.reply.Reply.TheVariants as reply
use Rattle.link_whole.specs.InputAndSave.{StandsFor, IsSavedIn, IsInputFor, HasNoInput, IsInput, IsNext, Finds, FindsNothing, has_stopped, saves_each, Begins, at_start, by_input, MayBegin, starts, hears, with_items}

-- ---- triggers

one_trigger : (x y : Trigger) → same_trigger x y ≡ true → x ≡ y
one_trigger (trigger.Signal m) (trigger.Signal n) e = ap (λ (k : ℕ). trigger.Signal (record { 0 = k })) (grind (arith, eqb_tells, e))
one_trigger (trigger.Signal m) (trigger.Timer n) e = cc
one_trigger (trigger.Timer m) (trigger.Signal n) e = cc
one_trigger (trigger.Timer m) (trigger.Timer n) e = ap (λ (k : ℕ). trigger.Timer (record { 0 = k })) (grind (arith, eqb_tells, e))

same_numbers : (n : ℕ) → (let b : Bool = same_trigger (trigger.Signal (record { 0 = n })) (trigger.Signal (record { 0 = n })) in b) ≡ true
same_numbers n = grind (arith, eqb_tells)

itself : (x : Trigger) → same_trigger x x ≡ true
itself (trigger.Signal m) = same_numbers m.0
itself (trigger.Timer m) = same_numbers m.0

are_same : (x y : Trigger) → x ≡ y → same_trigger x y ≡ true
are_same x y e = ap (λ (z : Trigger). same_trigger x z) (sym e) ∙ itself x

-- one of the names stands for the trigger
record IsAmong (f : Identifier → Trigger) (ids : List Identifier) (t : Trigger) : Type 0 where
  place : ℕ
  name : Identifier
  there : slice_get ids place ≡ Some name
  stands : f name ≡ t

module _ (f : Identifier → Trigger) (t : Trigger) where
  among : (ids : List Identifier) → list_any (same_trigger t) (map f ids) ≡ true → IsAmong f ids t
  among [] h = cc
  among (id ∷ ids) h = by (same_trigger t (f id)) refl (among ids) h
    where
      by : (x : Bool) → same_trigger t (f id) ≡ x → (list_any (same_trigger t) (map f ids) ≡ true → IsAmong f ids t)
          → (x || list_any (same_trigger t) (map f ids)) ≡ true → IsAmong f (id ∷ ids) t
      by true e rest h = record { place = 0; name = id; there = refl; stands = sym (one_trigger t (f id) e) }
      by false e rest h = let r = rest h in record { place = suc r.place; name = r.name; there = r.there; stands = r.stands }

  not_among : (ids : List Identifier) (place : ℕ) (name : Identifier) → list_any (same_trigger t) (map f ids) ≡ false → slice_get ids place ≡ Some name → f name ≡ t → ⊥
  not_among [] place name h there stands = cc
  not_among (id ∷ ids) place name h there stands = by (same_trigger t (f id)) refl (λ n. not_among ids n name) h place there
    where
      by : (x : Bool) → same_trigger t (f id) ≡ x
          → ((n : ℕ) → list_any (same_trigger t) (map f ids) ≡ false → slice_get ids n ≡ Some name → f name ≡ t → ⊥)
          → (x || list_any (same_trigger t) (map f ids)) ≡ false → (n : ℕ) → slice_get (id ∷ ids) n ≡ Some name → ⊥
      by true e rest h n there = cc
      by false e rest h zero there =
          let same : id ≡ name = same_Some id name there in
          let is : same_trigger t (f id) ≡ true = are_same t (f id) (sym (ap f same ∙ stands)) in
          cc
      by false e rest h (suc n) there = rest n h there stands

-- ---- the rows of a state

numbered : {X : Type 0} {Y : Type 0} (f : ℕ → Y) (n : ℕ) (xs : List X) (i : ℕ) (y : Y) → slice_get (map (λ (s : ℕ × X). f s.0) (enumerate_from n xs)) i ≡ Some y → y ≡ f (n + i)
numbered f n [] i y h = cc
numbered f n (x ∷ xs) zero y h = sym (same_Some (f n) y h) ∙ ap f (let e : n ≡ n + 0 = omega arith in e)
numbered f n (x ∷ xs) (suc i) y h = numbered f (n + 1) xs i y h ∙ ap f (let e : n + 1 + i ≡ n + suc i = omega arith in e)

row_is : {X : Type 0} (f : PlainState → List X) (p : PlainProcess) (q : ℕ) (row : List X) → slice_get (by_state f p) q ≡ Some row → row ≡ of_state f p q
row_is f p q row h = numbered (λ (s : ℕ). of_state f p s) 0 (states_of p) q row h ∙ ap (of_state f p) (let e : 0 + q ≡ q = omega arith in e)

-- the saves and inputs of state q of process n of a draft are those of process p of the text
record IsInText (b : PlainBlock) (d : Draft) (n q : ℕ) (p : PlainProcess) : Type 0 where
  there : slice_get (processes_of b) n ≡ Some p
  saves : saves_at d n q ≡ map (trigger_named (scope_of b p)) (saves_of p q)
  inputs : AllZip (MatchesInput (scope_of b p)) (inputs_of p q) (inputs_at d n q)

in_text : (b : PlainBlock) (d : Draft) → MatchesBlock b d → (n q : ℕ) (dp : DraftProcess) (ds : DraftState) → slice_get d.processes n ≡ Some dp
    → slice_get dp.states q ≡ Some ds → (p : PlainProcess) × IsInText b d n q p
in_text b d matches n q dp ds process state =
    let r : Paired (MatchesProcess b) (processes_of b) n dp = paired (MatchesProcess b) (processes_of b) d.processes n dp matches.processes process in
    let p : PlainProcess = r.item in
    let c : Scope = scope_of b p in
    let saves : Paired (SavesAll c) (saves_by_state p) q ds = paired (SavesAll c) (saves_by_state p) dp.states q ds r.related.saves state in
    let inputs : Paired (MatchesInputs c) (inputs_by_state p) q ds = paired (MatchesInputs c) (inputs_by_state p) dp.states q ds r.related.inputs state in (
      p,
      record {
        there = r.there;
        saves = ap (λ o. draft_saves (slice_get (draft_states o) q)) process ∙ ap draft_saves state ∙ saves.related
            ∙ ap (λ (ids : List Identifier). map (trigger_named c) ids) (row_is part_saves p q saves.item saves.there);
        inputs = subst (λ (is : List DraftInput). AllZip (MatchesInput c) (inputs_of p q) is)
            (sym (ap (λ o. draft_inputs (slice_get (draft_states o) q)) process ∙ ap draft_inputs state))
            (subst (λ (is : List Input). AllZip (MatchesInput c) is ds.inputs) (row_is part_inputs p q inputs.item inputs.there) inputs.related);
      },
    )

-- ---- items in a state

-- inputs one by one
matched : (c : Scope) (is : List Input) (ds : List DraftInput) (m : ℕ) (i : Input) → AllZip (MatchesInput c) is ds → slice_get is m ≡ Some i
    → (x : DraftInput) × (slice_get ds m ≡ Some x) × (x.trigger ≡ trigger_named c i.stimulus.name)
matched c [] [] m i zips h = cc
matched c [] (y ∷ ds) m i zips h = absurd zips
matched c (j ∷ is) [] m i zips h = absurd zips
matched c (j ∷ is) (y ∷ ds) zero i zips h =
    let same : j ≡ i = same_Some j i h in
    (y, refl, zips.0.trigger ∙ ap (λ (k : Input). trigger_named c k.stimulus.name) same)
matched c (j ∷ is) (y ∷ ds) (suc m) i zips h = matched c is ds m i zips.1 h

never_found : {A : Type 0} (t : A → Bool) (xs : List A) (k : ℕ) (x : A) → position t xs ≡ None → slice_get xs k ≡ Some x → t x ≡ true → ⊥
never_found t xs k x none there h =
    let short : nat_lt (position_or_len t xs) (length xs) ≡ true = lt-ltb (position_or_len t xs) (length xs) (first_within t xs k x there h) in
    let found : position t xs ≡ Some (position_or_len t xs) = ap (λ (b : Bool). let o : Option ℕ = cond b (Some (position_or_len t xs)) None in o) short in
    none-some (position_or_len t xs) (sym none ∙ found)

module _ (b : PlainBlock) (d : Draft) (n q : ℕ) (p : PlainProcess) (t : IsInText b d n q p) where
  saved_so : (x : Item) → is_saved d n q x ≡ true → IsSavedIn b p q x
  saved_so x h =
      let r = among (trigger_named (scope_of b p)) (trigger_of x) (saves_of p q)
      (ap (λ (ts : List Trigger). list_any (same_trigger (trigger_of x)) ts) (sym t.saves) ∙ h) in
      record { place = r.place; name = r.name; there = r.there; stands = r.stands }

  unsaved_so : (x : Item) → is_saved d n q x ≡ false → IsSavedIn b p q x → ⊥
  unsaved_so x h saved =
      not_among (trigger_named (scope_of b p)) (trigger_of x) (saves_of p q) saved.place saved.name
      (ap (λ (ts : List Trigger). list_any (same_trigger (trigger_of x)) ts) (sym t.saves) ∙ h) saved.there saved.stands

  -- an input with a name of the item waits for it
  waits_so : (x : Item) (y : DraftInput) (i : Input) → y.trigger ≡ trigger_named (scope_of b p) i.stimulus.name → StandsFor b p x i.stimulus.name
      → same_trigger y.trigger (trigger_of x) ≡ true
  waits_so x y i is stands = are_same y.trigger (trigger_of x) (is ∙ stands)

  no_input : (x : Item) → input_for d n q x ≡ None → HasNoInput b p q x
  no_input x none m i there stands =
      let y = matched (scope_of b p) (inputs_of p q) (inputs_at d n q) m i t.inputs there in
      never_found (λ (z : DraftInput). same_trigger z.trigger (trigger_of x)) (inputs_at d n q) m y.0 none y.1 (waits_so x y.0 i y.2 stands)

  has_input : (x : Item) (m : ℕ) → input_for d n q x ≡ Some m → (y : DraftInput) → slice_get (inputs_at d n q) m ≡ Some y → IsInputFor b p q x m
  has_input x m h y there =
      let found = position-Some (λ (z : DraftInput). same_trigger z.trigger (trigger_of x)) (inputs_at d n q) m y h in
      let one : Paired (MatchesInput (scope_of b p)) (inputs_of p q) m y = paired (MatchesInput (scope_of b p)) (inputs_of p q) (inputs_at d n q) m y t.inputs there in
      let here : get_or (inputs_at d n q) m y ≡ y = get_or_from_slice_get (inputs_at d n q) m y y there in
      let is : same_trigger y.trigger (trigger_of x) ≡ true = ap (λ (z : DraftInput). same_trigger z.trigger (trigger_of x)) (sym here) ∙ found.1 in
      record {
        input = one.item;
        there = one.there;
        stands = sym one.related.trigger ∙ one_trigger y.trigger (trigger_of x) is;
        first = λ j i less at stands.
            let z = matched (scope_of b p) (inputs_of p q) (inputs_at d n q) j i t.inputs at in
            let there' : get_or (inputs_at d n q) j y ≡ z.0 = get_or_from_slice_get (inputs_at d n q) j z.0 y z.1 in
            let no : same_trigger z.0.trigger (trigger_of x) ≡ false =
            ap (λ (w : DraftInput). same_trigger w.trigger (trigger_of x)) (sym there') ∙ found.2 j less in
            let yes' : same_trigger z.0.trigger (trigger_of x) ≡ true = waits_so x z.0 i z.2 stands in
            cc;
      }

  some_input : (x : Item) (m : ℕ) → input_for d n q x ≡ Some m → (o : Option DraftInput) → slice_get (inputs_at d n q) m ≡ o → IsInputFor b p q x m
  some_input x m h None there =
      let found = found_first (λ (z : DraftInput). same_trigger z.trigger (trigger_of x)) (inputs_at d n q) m h in
      absurd (none-some found.0 (sym there ∙ found.1))
  some_input x m h (Some y) there = has_input x m h y there

  input_so : (x : Item) (o : Option ℕ) → input_for d n q x ≡ o → IsInput b p q x o
  input_so x None h = no_input x h
  input_so x (Some m) h = some_input x m h (slice_get (inputs_at d n q) m) refl

  each_saved : (xs : List Item) → AllByRecursion (λ (x : Item). is_saved d n q x ≡ true) xs → AllByRecursion (IsSavedIn b p q) xs
  each_saved [] all = tt
  each_saved (x ∷ xs) all = (saved_so x all.0, each_saved xs all.1)

  next_so : (xs : List Item) (x : Item) → first_unsaved (is_saved d n q) xs ≡ Some x → IsNext b p q xs x (without_first (is_saved d n q) xs)
  next_so xs x h =
      let k : Takes (is_saved d n q) xs x (without_first (is_saved d n q) xs) = Takes-first (is_saved d n q) xs x h in
      record {
        before = k.before;
        after = k.after;
        stood = k.stood;
        saved = each_saved k.before k.saved_before;
        not_saved = unsaved_so x k.not_saved;
        stays = k.stays;
      }

  all_saved : (xs : List Item) → first_unsaved (is_saved d n q) xs ≡ None → AllByRecursion (IsSavedIn b p q) xs
  all_saved [] h = tt
  all_saved (x ∷ xs) h = by (is_saved d n q x) refl (all_saved xs) h
    where
      by : (s : Bool) → is_saved d n q x ≡ s → (first_unsaved (is_saved d n q) xs ≡ None → AllByRecursion (IsSavedIn b p q) xs)
          → (let o : Option Item = cond s (first_unsaved (is_saved d n q) xs) (Some x) in o) ≡ None → AllByRecursion (IsSavedIn b p q) (x ∷ xs)
      by true e rest h = (saved_so x e, rest h)
      by false e rest h = cc

-- ---- an actor

module _ (b : PlainBlock) (d : Draft) (matches : MatchesBlock b d) (a : Actor) (fits : ActorFits d a) where
  abbrev at : ℕ
  at = a.name.process.0

  -- the actor's state in the text
  here_in_text : (q : StateNumber) → a.standing ≡ At (State q) → (p : PlainProcess) × IsInText b d at q.0 p
  here_in_text q standing =
      let ready : IsReadyAt fits.process q.0 a.variables.items = subst (λ (s : Standing). StandingFits fits.process s a.variables.items) standing fits.standing in
      in_text b d matches at q.0 fits.process ready.state fits.there ready.there

  finds : (q : StateNumber) → a.standing ≡ At (State q) → (x : Item) (o : Option ℕ) → first_unsaved (is_saved d at q.0) a.port.items ≡ Some x
      → input_for d at q.0 x ≡ o → Finds b a x (without_first (is_saved d at q.0) a.port.items) o
  finds q standing x o first input =
      let t = here_in_text q standing in
      record {
        process = t.0;
        there = t.1.there;
        state = q;
        standing = standing;
        next = next_so b d at q.0 t.0 t.1 a.port.items x first;
        input = input_so b d at q.0 t.0 t.1 x o input;
      }

  -- ---- nothing to take

  nothing_in : (q : StateNumber) → a.standing ≡ At (State q) → (o : Option Item) → first_unsaved (is_saved d at q.0) a.port.items ≡ o
      → is_nothing (found_item d at q.0 o) ≡ true → FindsNothing b a
  nothing_in q standing None first h = let t = here_in_text q standing in saves_each t.0 q t.1.there standing (all_saved b d at q.0 t.0 t.1 a.port.items first)
  nothing_in q standing (Some x) first h = absurd (by (input_for d at q.0 x) h)
    where
      by : (i : Option ℕ) → is_nothing (as_input i) ≡ true → ⊥
      by None h = cc
      by (Some i) h = cc

  nothing_at : (s : Standing) → a.standing ≡ s → is_nothing (found_at d at s a.port.items) ≡ true → FindsNothing b a
  nothing_at (At (State q)) standing h = nothing_in q standing (first_unsaved (is_saved d at q.0) a.port.items) refl h
  nothing_at (At Start) standing h = cc
  nothing_at Stopped standing h = has_stopped standing

  pub finds_nothing : is_nothing (looks d a) ≡ true → FindsNothing b a
  unfolding looks
  finds_nothing h = nothing_at a.standing refl h

  -- ---- an item without an input

  ignored_in : (q : StateNumber) → a.standing ≡ At (State q) → (o : Option Item) → first_unsaved (is_saved d at q.0) a.port.items ≡ o
      → is_ignored (found_item d at q.0 o) ≡ true → (x : Item) × (o ≡ Some x) × Finds b a x (without_first (is_saved d at q.0) a.port.items) None
  ignored_in q standing None first h = cc
  ignored_in q standing (Some x) first h = by (input_for d at q.0 x) refl h
    where
      by : (i : Option ℕ) → input_for d at q.0 x ≡ i → is_ignored (as_input i) ≡ true
          → (y : Item) × ((let o : Option Item = Some x in o) ≡ Some y) × Finds b a y (without_first (is_saved d at q.0) a.port.items) None
      by None is h = (x, refl, finds q standing x None first is)
      by (Some i) is h = cc

  ignored_at : (s : Standing) → a.standing ≡ s → is_ignored (found_at d at s a.port.items) ≡ true
      → (x : Item) × (item_at d at s a.port.items ≡ Some x) × Finds b a x (left_at d at s a.port.items) None
  ignored_at (At (State q)) standing h = ignored_in q standing (first_unsaved (is_saved d at q.0) a.port.items) refl h
  ignored_at (At Start) standing h = cc
  ignored_at Stopped standing h = cc

  pub finds_ignored : is_ignored (looks d a) ≡ true
      → (x : Item) × (item_at d at a.standing a.port.items ≡ Some x) × Finds b a x (left_at d at a.standing a.port.items) None
  unfolding looks
  finds_ignored h = ignored_at a.standing refl h

  -- ---- START, or an item with an input

  begins_in : (q : StateNumber) → a.standing ≡ At (State q) → (o : Option Item) → first_unsaved (is_saved d at q.0) a.port.items ≡ o
      → is_nothing (found_item d at q.0 o) ≡ false → is_ignored (found_item d at q.0 o) ≡ false → MayBegin b a
  begins_in q standing None first some h = cc
  begins_in q standing (Some x) first some h = by (input_for d at q.0 x) refl h
    where
      by : (i : Option ℕ) → input_for d at q.0 x ≡ i → is_ignored (as_input i) ≡ false → MayBegin b a
      by None is h = cc
      by (Some i) is h = hears x (without_first (is_saved d at q.0) a.port.items) i (finds q standing x (Some i) first is)

  begins_at : (s : Standing) → a.standing ≡ s → is_nothing (found_at d at s a.port.items) ≡ false → is_ignored (found_at d at s a.port.items) ≡ false → MayBegin b a
  begins_at (At (State q)) standing some h = begins_in q standing (first_unsaved (is_saved d at q.0) a.port.items) refl some h
  begins_at (At Start) standing some h = starts standing
  begins_at Stopped standing some h = cc

  pub may_begin : is_nothing (looks d a) ≡ false → is_ignored (looks d a) ≡ false → MayBegin b a
  unfolding looks
  may_begin some h = begins_at a.standing refl some h

  -- ---- the turn that begins

  module _ (turn : ℕ) where
    abbrev made_with : List Item → ℕ → Option Item → Actor
    made_with left number x =
        record a { port = record a.port { items = left }; given = Some (record { turn = turn; number = number; input = input_with a x }) }

    abbrev made_for : Standing → Actor
    made_for s = made_with (left_at d at s a.port.items) (number_in (found_at d at s a.port.items)) (item_at d at s a.port.items)

    abbrev now_for : Standing → Begun
    now_for s = record { turn = turn; place = place_of s; number = number_in (found_at d at s a.port.items) }

    turn_in : (q : StateNumber) → a.standing ≡ At (State q) → (o : Option Item) → first_unsaved (is_saved d at q.0) a.port.items ≡ o
        → is_nothing (found_item d at q.0 o) ≡ false → is_ignored (found_item d at q.0 o) ≡ false
        → Begins b a (made_with (without_first (is_saved d at q.0) a.port.items) (number_in (found_item d at q.0 o)) o)
        (record { turn = turn; place = State q; number = number_in (found_item d at q.0 o) })
    unfolding finds
    turn_in q standing None first some h = cc
    turn_in q standing (Some x) first some h = by (input_for d at q.0 x) refl h
      where
        by : (i : Option ℕ) → input_for d at q.0 x ≡ i → is_ignored (as_input i) ≡ false
            → Begins b a (made_with (without_first (is_saved d at q.0) a.port.items) (number_in (as_input i)) (Some x))
            (record { turn = turn; place = State q; number = number_in (as_input i) })
        by None is h = cc
        by (Some i) is h = by_input x (without_first (is_saved d at q.0) a.port.items) (finds q standing x (Some i) first is) refl refl

    turn_at : (s : Standing) → a.standing ≡ s → is_nothing (found_at d at s a.port.items) ≡ false → is_ignored (found_at d at s a.port.items) ≡ false
        → Begins b a (made_for s) (now_for s)
    turn_at (At (State q)) standing some h = turn_in q standing (first_unsaved (is_saved d at q.0) a.port.items) refl some h
    turn_at (At Start) standing some h = at_start standing refl refl refl
    turn_at Stopped standing some h = cc

    pub begins_so : is_nothing (looks d a) ≡ false → is_ignored (looks d a) ≡ false → Begins b a (begun d turn a) (begun_now d turn a)
    unfolding looks begun given_now
    begins_so some h = turn_at a.standing refl some h
