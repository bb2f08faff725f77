-- A draft that matches a sound block means it as a function, and its certificates are those that the block counts.
use Rattle.std.proofs.Common.{◌≡◌, ℕ, zero, suc, List, Option, Some, None, refl, sym, ap, ◌∙◌, subst}
use Rattle.std.specs.Prelude.{slice_get}
use Rattle.std.specs.Option.{option_map}
use Rattle.sdl_ast.specs.Plain.{PlainProcess, PlainBlock}
use Rattle.turn_code.specs.declared.input.Input as code_input
use Rattle.turn_code.specs.declared.input.Place.{Place}
use Rattle.turn_code.specs.declared.input.Place.TheVariants.{Start, State}
use Rattle.turn_code.specs.declared.draft.Draft.{Draft}
use Rattle.turn_code.specs.declared.draft.DraftProcess.{DraftProcess}
use Rattle.turn_code.specs.declared.draft.DraftState.{DraftState}
use Rattle.turn_code.specs.declared.draft.DraftInput.{DraftInput}
use Rattle.turn_code.specs.declared.numbers.StateNumber.{StateNumber}
use Rattle.turn_code.specs.Transitions.{Transition, start_of, input_of, input_at, start_at, place_at, process_at, transition_at}
use Rattle.turn_code.specs.Run.{Ran, run}
use Rattle.turn_code.specs.Outcome.{result_in}
use Rattle.sdl_tables.specs.Names.{Input, processes_of, inputs_by_state}
use Rattle.sdl_sound.specs.Longest.{start_piece, input_piece}
use Rattle.sdl_sound.specs.Sound.{Sound}
use Rattle.sdl_meaning.specs.Act.{scope_of}
use Rattle.sdl_compile.specs.Drafts.{MatchesProcess, MatchesInputs, MatchesInput}
use Rattle.sdl_compile.specs.Blocks.{MatchesBlock}
use Rattle.sdl_compile.specs.Meaning.{input_of_state, IsMeant, RunsAsMeant}
use Rattle.sdl_compile.specs.Meant.{meant_by, meant_in, meaning_of, IsCertifiedBy, IsSetOfBlock}
use Rattle.sdl_compile.proofs.Meaning.{paired, runs_as_meant}

as_function : (b : PlainBlock) (n : ℕ) (s : Place) (i : ℕ) (x : code_input.Input) (r : Ran) → IsMeant b n s i x r → meaning_of b n s i x ≡ result_in r
unfolding meaning_of
as_function b n s i x r m =
    ap (meant_in b s i x) m.there ∙ ap (λ q. meant_by (scope_of b m.process) q x) m.piece_there ∙ ap result_in (sym m.act)

module _ (b : PlainBlock) (d : Draft) (matches : MatchesBlock b d) where
  start_certified : (n : ℕ) (i : ℕ) (t : Transition) (p : PlainProcess) (dp : DraftProcess) → slice_get (processes_of b) n ≡ Some p → MatchesProcess b p dp
      → start_at n dp i ≡ Some t → IsCertifiedBy b n Start i t.piece.certificate
  start_certified n zero t p dp there m e =
      let f : start_of n dp ≡ t = cc in
      subst (λ (t : Transition). IsCertifiedBy b n Start 0 t.piece.certificate) f
      (record { process = p; there = there; piece = start_piece p; piece_there = refl; longest = m.start.certificate })
  start_certified n (suc i) t p dp there m e = absurd (let k : ⊥ = cc in k)

  input_certified : (n : ℕ) (q : StateNumber) (i : ℕ) (t : Transition) (p : PlainProcess) (dp : DraftProcess) (ds : DraftState)
      → slice_get (processes_of b) n ≡ Some p → MatchesProcess b p dp → slice_get dp.states q.0 ≡ Some ds
      → option_map (input_of d.signals n dp ds) (slice_get ds.inputs i) ≡ Some t → IsCertifiedBy b n (State q) i t.piece.certificate
  input_certified n q i t p dp ds there m state e = by_input (slice_get ds.inputs i) refl e
    where
      by_input : (o : Option DraftInput) → slice_get ds.inputs i ≡ o → option_map (input_of d.signals n dp ds) o ≡ Some t → IsCertifiedBy b n (State q) i t.piece.certificate
      by_input None f e = absurd (let k : ⊥ = cc in k)
      by_input (Some di) f e =
          let made = input_of d.signals n dp ds di in
          let g : made ≡ t = cc in
          let is = paired (MatchesInputs (scope_of b p)) (inputs_by_state p) dp.states q.0 ds m.inputs state in
          let one = paired (MatchesInput (scope_of b p)) is.item ds.inputs i di is.related f in
          subst (λ (t : Transition). IsCertifiedBy b n (State q) i t.piece.certificate) g (record {
            process = p;
            there = there;
            piece = input_piece one.item;
            piece_there = ap (λ (o : Option (List Input)). input_of_state o i) is.there ∙ ap (option_map input_piece) one.there;
            longest = one.related.means.certificate;
          })

  place_certified : (n : ℕ) (s : Place) (i : ℕ) (t : Transition) (p : PlainProcess) (dp : DraftProcess)
      → slice_get (processes_of b) n ≡ Some p → MatchesProcess b p dp → place_at d.signals n dp s i ≡ Some t → IsCertifiedBy b n s i t.piece.certificate
  place_certified n Start i t p dp there m e = start_certified n i t p dp there m e
  place_certified n (State q) i t p dp there m e = by_state (slice_get dp.states q.0) refl e
    where
      by_state : (o : Option DraftState) → slice_get dp.states q.0 ≡ o → input_at d.signals n dp i o ≡ Some t → IsCertifiedBy b n (State q) i t.piece.certificate
      by_state None f e = absurd (let k : ⊥ = cc in k)
      by_state (Some ds) f e = input_certified n q i t p dp ds there m f e

  certified : (n : ℕ) (s : Place) (i : ℕ) (t : Transition) → transition_at d n s i ≡ Some t → IsCertifiedBy b n s i t.piece.certificate
  certified n s i t e = by_process (slice_get d.processes n) refl e
    where
      by_process : (o : Option DraftProcess) → slice_get d.processes n ≡ o → process_at d.signals n s i o ≡ Some t → IsCertifiedBy b n s i t.piece.certificate
      by_process None f e = absurd (let k : ⊥ = cc in k)
      by_process (Some dp) f e =
          let r = paired (MatchesProcess b) (processes_of b) d.processes n dp matches.processes f in
          place_certified n s i t r.item dp r.there r.related e

pub set_of_block : (b : PlainBlock) (d : Draft) → Sound b → MatchesBlock b d → IsSetOfBlock b d
set_of_block b d sound matches =
    let runs : RunsAsMeant b d = runs_as_meant b d sound matches in
    record {
      matches = matches;
      runs = runs;
      means = λ n s i t x e fits. as_function b n s i x (run t.piece.code x) (runs.each n s i t x e fits);
      certified = record { each = certified b d matches };
    }
