-- The run of a draft's transition on an input that fits it is the meaning of the text.
use Rattle.std.proofs.Common.{◌≡◌, ℕ, zero, suc, List, [], ◌∷◌, map, Option, Some, None, refl, sym, ap, ◌∙◌, subst}
use Rattle.std.specs.Prelude.{slice_get, Any}
use Rattle.std.specs.List.{AllZip}
use Rattle.std.specs.Option.{option_map}
use Rattle.sdl_ast.specs.declared.expression.Identifier.{Identifier}
use Rattle.sdl_ast.specs.Plain.{PlainProcess, PlainBlock}
use Rattle.turn_code.specs.declared.input.Input as code_input
use Rattle.turn_code.specs.declared.input.Address.{Address}
use Rattle.turn_code.specs.declared.input.Place.{Place}
use Rattle.turn_code.specs.declared.input.Place.TheVariants.{Start, State}
use Rattle.turn_code.specs.declared.draft.Draft.{Draft}
use Rattle.turn_code.specs.declared.draft.DraftProcess.{DraftProcess}
use Rattle.turn_code.specs.declared.draft.DraftState.{DraftState}
use Rattle.turn_code.specs.declared.draft.DraftInput.{DraftInput}
use Rattle.turn_code.specs.declared.draft.Trigger.{Trigger}
use Rattle.turn_code.specs.declared.numbers.StateNumber.{StateNumber}
use Rattle.turn_code.specs.Routes.{Brings}
use Rattle.turn_code.specs.Transitions.{Transition, start_of, input_of, input_at, start_at, place_at, process_at, transition_at}
use Rattle.turn_code.specs.Fits.{FitsTransition, IsBrought}
use Rattle.turn_code.specs.Run.{run}
use Rattle.sdl_tables.specs.Names.{Input, processes_of, process_names, inputs_by_state, timers_of, number_of}
use Rattle.sdl_sound.specs.Longest.{start_piece, input_piece}
use Rattle.sdl_sound.specs.Receivers.{paths_of}
use Rattle.sdl_sound.specs.Sound.{Sound}
use Rattle.sdl_meaning.specs.Act.{scope_of}
use Rattle.sdl_meaning.specs.Outcomes.{signal_at}
use Rattle.sdl_meaning.specs.Named.{IsSentIf, IsSentTo}
use Rattle.sdl_meaning.specs.Code.{number_or_zero}
use Rattle.sdl_meaning.specs.Declarations.{trigger_with, trigger_of}
use Rattle.sdl_compile.specs.Drafts.{MatchesProcess, MatchesInputs, MatchesInput}
use Rattle.sdl_compile.specs.Blocks.{MatchesBlock}
use Rattle.sdl_compile.specs.Routes.{IsKnownPath}
use Rattle.sdl_compile.specs.Meaning.{input_of_state, IsMeant, RunsAsMeant}
use Rattle.sdl_sound.proofs.Items.{Each}
use Rattle.sdl_compile.proofs.Sent.{sent_by}
use Rattle.sdl_compile.proofs.Whole.{known_paths}

-- The item of the first list at the place of one of the second.
pub record Paired {A B : Type 0} (R : A → B → Type 0) (xs : List A) (n : ℕ) (y : B) : Type 0 where
  pub item : A
  pub there : slice_get xs n ≡ Some item
  pub related : R item y

pub paired : {A B : Type 0} (R : A → B → Type 0) (xs : List A) (ys : List B) (n : ℕ) (y : B) → AllZip R xs ys → slice_get ys n ≡ Some y → Paired R xs n y
paired R [] [] n y zips e = absurd (let k : ⊥ = cc in k)
paired R [] (z ∷ ys) n y zips e = absurd zips
paired R (x ∷ xs) [] n y zips e = absurd zips
paired R (x ∷ xs) (z ∷ ys) zero y zips e = let f : z ≡ y = cc in record { item = x; there = refl; related = subst (R x) f zips.0 }
paired R (x ∷ xs) (z ∷ ys) (suc n) y zips e =
    let r = paired R xs ys n y zips.1 e in record { item = r.item; there = r.there; related = r.related }

module _ (b : PlainBlock) (d : Draft) (matches : MatchesBlock b d) (known : Each (IsKnownPath b) (paths_of b)) where
  -- A sender that fits is a possible sender.
  may_send : (n : ℕ) (p : PlainProcess) (id : Identifier) (sender : Option Address) → slice_get (process_names b) n ≡ Some p.name → IsBrought d n (Some (trigger_of (scope_of b p) id)) sender → IsSentTo (scope_of b p) (Some id) sender
  may_send n p id sender at brought = by_number (signal_at (scope_of b p) id) refl sender brought
    where
      by_number : (o : Option ℕ) → signal_at (scope_of b p) id ≡ o → (sender : Option Address)
          → IsBrought d n (Some (trigger_with o (number_or_zero (number_of (timers_of p) id.name)))) sender → IsSentIf (scope_of b p) id o sender
      by_number None e sender h = tt
      by_number (Some m) e None h = h
      by_number (Some m) e (Some s) h = sent_by b p n id (record { 0 = m }) s at e known (subst (Any (Brings s.party n (record { 0 = m }))) matches.routes h)

  start_meant : (n : ℕ) (i : ℕ) (t : Transition) (x : code_input.Input) (p : PlainProcess) (dp : DraftProcess) → slice_get (processes_of b) n ≡ Some p → MatchesProcess b p dp → start_at n dp i ≡ Some t → IsMeant b n Start i x (run t.piece.code x)
  start_meant n zero t x p dp there m e =
      let f : start_of n dp ≡ t = cc in
      record { process = p; there = there; piece = start_piece p; piece_there = refl; act = ap (λ (t : Transition). run t.piece.code x) (sym f) ∙ m.start.run_is_act x tt }
  start_meant n (suc i) t x p dp there m e = absurd (let k : ⊥ = cc in k)

  input_meant : (n : ℕ) (q : StateNumber) (i : ℕ) (t : Transition) (x : code_input.Input) (p : PlainProcess) (dp : DraftProcess) (ds : DraftState)
      → slice_get (processes_of b) n ≡ Some p → slice_get (process_names b) n ≡ Some p.name → MatchesProcess b p dp → slice_get dp.states q.0 ≡ Some ds
      → option_map (input_of d.signals n dp ds) (slice_get ds.inputs i) ≡ Some t → FitsTransition d t x → IsMeant b n (State q) i x (run t.piece.code x)
  input_meant n q i t x p dp ds there at m state e fits = by_input (slice_get ds.inputs i) refl e
    where
      by_input : (o : Option DraftInput) → slice_get ds.inputs i ≡ o → option_map (input_of d.signals n dp ds) o ≡ Some t → IsMeant b n (State q) i x (run t.piece.code x)
      by_input None f e = absurd (let k : ⊥ = cc in k)
      by_input (Some di) f e =
          let made = input_of d.signals n dp ds di in
          let g : made ≡ t = cc in
          let is = paired (MatchesInputs (scope_of b p)) (inputs_by_state p) dp.states q.0 ds m.inputs state in
          let one = paired (MatchesInput (scope_of b p)) is.item ds.inputs i di is.related f in
          let fits' : FitsTransition d made x = subst (λ (t : Transition). FitsTransition d t x) (sym g) fits in
          let brought = subst (λ (r : Trigger). IsBrought d n (Some r) x.sender) one.related.trigger fits'.brought in
          record {
            process = p;
            there = there;
            piece = input_piece one.item;
            piece_there = ap (λ (o : Option (List Input)). input_of_state o i) is.there ∙ ap (option_map input_piece) one.there;
            act = ap (λ (t : Transition). run t.piece.code x) (sym g) ∙ one.related.means.run_is_act x (may_send n p one.item.stimulus.name x.sender at brought);
          }

  place_meant : (n : ℕ) (s : Place) (i : ℕ) (t : Transition) (x : code_input.Input) (p : PlainProcess) (dp : DraftProcess)
      → slice_get (processes_of b) n ≡ Some p → slice_get (process_names b) n ≡ Some p.name → MatchesProcess b p dp → place_at d.signals n dp s i ≡ Some t → FitsTransition d t x → IsMeant b n s i x (run t.piece.code x)
  place_meant n Start i t x p dp there at m e fits = start_meant n i t x p dp there m e
  place_meant n (State q) i t x p dp there at m e fits = by_state (slice_get dp.states q.0) refl e
    where
      by_state : (o : Option DraftState) → slice_get dp.states q.0 ≡ o → input_at d.signals n dp i o ≡ Some t → IsMeant b n (State q) i x (run t.piece.code x)
      by_state None f e = absurd (let k : ⊥ = cc in k)
      by_state (Some ds) f e = input_meant n q i t x p dp ds there at m f e fits

  name_at : (ps : List PlainProcess) (n : ℕ) (p : PlainProcess) → slice_get ps n ≡ Some p → slice_get (map (λ (p : PlainProcess). p.name) ps) n ≡ Some p.name
  name_at [] n p e = absurd (let k : ⊥ = cc in k)
  name_at (q ∷ ps) zero p e = let f : q ≡ p = cc in ap (λ (p : PlainProcess). Some p.name) f
  name_at (q ∷ ps) (suc n) p e = name_at ps n p e

  meant : (n : ℕ) (s : Place) (i : ℕ) (t : Transition) (x : code_input.Input) → transition_at d n s i ≡ Some t → FitsTransition d t x → IsMeant b n s i x (run t.piece.code x)
  meant n s i t x e fits = by_process (slice_get d.processes n) refl e
    where
      by_process : (o : Option DraftProcess) → slice_get d.processes n ≡ o → process_at d.signals n s i o ≡ Some t → IsMeant b n s i x (run t.piece.code x)
      by_process None f e = absurd (let k : ⊥ = cc in k)
      by_process (Some dp) f e =
          let r = paired (MatchesProcess b) (processes_of b) d.processes n dp matches.processes f in
          place_meant n s i t x r.item dp r.there (name_at (processes_of b) n r.item r.there) r.related e fits

-- A draft that matches a sound block runs as the block means.
pub runs_as_meant : (b : PlainBlock) (d : Draft) → Sound b → MatchesBlock b d → RunsAsMeant b d
runs_as_meant b d sound matches = record { each = meant b d matches (known_paths b sound) }
