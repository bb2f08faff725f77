-- Lists that are made item by item.
use Rattle.std.proofs.Common.{◌≡◌, ℕ, zero, suc, ◌+◌, ◌<◌, List, [], ◌∷◌, ◌++◌, length, get_or, take, drop, map, Some, refl, sym, ap, ◌∙◌, subst, arith}
use Rattle.std.proofs.Math.Seq.{take-suc}
use Rattle.std.proofs.lemmas.List.{map-append, length-map}
use Rattle.std.specs.List.{AllZip, enumerate_from, flat_map}
use Rattle.std.specs.Prelude.{slice_get, IfSome}
use Rattle.turn_code.specs.declared.draft.DraftInput.{DraftInput}
use Rattle.turn_code.specs.declared.draft.DraftState.{DraftState}
use Rattle.turn_code.specs.declared.variable_set.VariableSet.{VariableSet}
use Rattle.sdl_sound.specs.Longest.{input_piece}
use Rattle.sdl_ast.specs.declared.expression.Identifier.{Identifier}
use Rattle.sdl_ast.specs.declared.tree.InputPart.{InputPart}
use Rattle.sdl_ast.specs.declared.tree.Stimulus.{Stimulus}
use Rattle.sdl_ast.specs.Plain.{PlainState, PlainProcess}
use Rattle.sdl_ast.specs.Views.{input_of, stimulus_of, text_of}
use Rattle.sdl_tables.specs.Rows.{stimulus_inputs}
use Rattle.sdl_tables.specs.Names.{Input, states_of, of_state, by_state}
use Rattle.sdl_meaning.specs.Outcomes.{Scope}
use Rattle.sdl_emit.specs.Scopes.{input_by}
use Rattle.sdl_compile.specs.Drafts.{AllReady, AreReady, IsReadyInput, IsInputOf, AreInputsOf, MatchesInput, MatchesInputs, AreTriggers, AllTriggers, sets_of}
use Rattle.sdl_meaning.specs.Declarations.{trigger_sorts}
use Rattle.sdl_compile.specs.Settings.{IsReadyPiece}
use Rattle.sdl_meaning.proofs.Counted.{size_is}
use Rattle.sdl_compile.proofs.Pieces.{means}

-- One more item in both lists.
pub zip_more : {A B C : Type 0} (R : B → C → Type 0) (f : A → B) (xs : List A) (i : ℕ) (d : A) (ys : List C) (y : C) → i < length xs → AllZip R (map f (take i xs)) ys → R (f (get_or xs i d)) y → AllZip R (map f (take (suc i) xs)) (ys ++ y ∷ [])
zip_more R f [] i d ys y lt zips r = absurd (omega arith)
zip_more R f (x ∷ xs) zero d [] y lt zips r = (r, tt)
zip_more R f (x ∷ xs) zero d (z ∷ ys) y lt zips r = absurd zips
zip_more R f (x ∷ xs) (suc i) d [] y lt zips r = absurd zips
zip_more R f (x ∷ xs) (suc i) d (z ∷ ys) y lt zips r = (zips.0, zip_more R f xs i d ys y (omega arith) zips.1 r)

-- One more item, if the first list is read by place.
pub zip_some : {B C : Type 0} (R : B → C → Type 0) (xs : List B) (i : ℕ) (ys : List C) (y : C) → i < length xs → AllZip R (take i xs) ys → IfSome (slice_get xs i) (λ x. R x y) → AllZip R (take (suc i) xs) (ys ++ y ∷ [])
zip_some R [] i ys y lt zips r = absurd (omega arith)
zip_some R (x ∷ xs) zero [] y lt zips r = (r, tt)
zip_some R (x ∷ xs) zero (z ∷ ys) y lt zips r = absurd zips
zip_some R (x ∷ xs) (suc i) [] y lt zips r = absurd zips
zip_some R (x ∷ xs) (suc i) (z ∷ ys) y lt zips r = (zips.0, zip_some R xs i ys y (omega arith) zips.1 r)

-- Each of them is ready.
pub ready_at : {A : Type 0} (c : Scope) (f : A → Input) (xs : List A) (i : ℕ) (x : A) → i < length xs → x ≡ get_or xs i x → AreReady c (map f xs) → IsReadyInput c (f x)
ready_at c f [] i x lt is h = absurd (omega arith)
ready_at c f (y ∷ xs) zero x lt is h = subst (λ y. IsReadyInput c (f y)) (sym is) h.0
ready_at c f (y ∷ xs) (suc i) x lt is h = ready_at c f xs i x (omega arith) is h.1

ready_parts : (c : Scope) (xs ys : List Input) → AreReady c (xs ++ ys) → AreReady c xs × AreReady c ys
ready_parts c [] ys h = (tt, h)
ready_parts c (x ∷ xs) ys h = let r = ready_parts c xs ys h.1 in ((h.0, r.0), r.1)

-- So are the items of each of the lists that are joined.
pub ready_within : {A : Type 0} (c : Scope) (f : A → List Input) (xs : List A) (i : ℕ) (x : A) → i < length xs → x ≡ get_or xs i x → AreReady c (flat_map f xs) → AreReady c (f x)
ready_within c f [] i x lt is h = absurd (omega arith)
ready_within c f (y ∷ xs) zero x lt is h = subst (λ y. AreReady c (f y)) (sym is) (ready_parts c (f y) (flat_map f xs) h).0
ready_within c f (y ∷ xs) (suc i) x lt is h = ready_within c f xs i x (omega arith) is (ready_parts c (f y) (flat_map f xs) h).1

-- The inputs of an INPUT, signal by signal.
pub stimuli_taken : (i : InputPart) → stimulus_inputs (input_of i) ≡ map (input_by i) i.stimuli.items
stimuli_taken i = mapped i.stimuli.items
  where
    mapped : (xs : List Stimulus) → stimulus_inputs (record { at = i.at; stimuli = map stimulus_of xs; text = text_of i.transition }) ≡ map (input_by i) xs
    mapped [] = refl
    mapped (x ∷ xs) = ap (λ l. input_by i x ∷ l) (mapped xs)

pub all_ready_more : {A : Type 0} (c : Scope) (f : A → List Input) (xs : List A) (i : ℕ) (d : A) → i < length xs → AllReady c (map f (drop i xs)) → AreReady c (f (get_or xs i d)) × AllReady c (map f (drop (suc i) xs))
all_ready_more c f [] i d lt h = absurd (omega arith)
all_ready_more c f (x ∷ xs) zero d lt h = h
all_ready_more c f (x ∷ xs) (suc i) d lt h = all_ready_more c f xs i d (omega arith) h

-- What holds of each list of names holds of list i.
pub triggers_at : {A : Type 0} (c : Scope) (f : A → List Identifier) (xs : List A) (i : ℕ) (d : A) → i < length xs → AllTriggers c (map f xs) → AreTriggers c (f (get_or xs i d))
triggers_at c f [] i d lt h = absurd (omega arith)
triggers_at c f (x ∷ xs) zero d lt h = h.0
triggers_at c f (x ∷ xs) (suc i) d lt h = triggers_at c f xs i d (omega arith) h.1

-- Inputs that are made match what they mean.
inputs_match : (c : Scope) (entry : VariableSet) (is : List Input) (ds : List DraftInput) → AreReady c is → AllZip (IsInputOf c entry) is ds → AllZip (MatchesInput c) is ds
inputs_match c entry [] [] ready made = tt
inputs_match c entry [] (d ∷ ds) ready made = absurd made
inputs_match c entry (i ∷ is) [] ready made = absurd made
inputs_match c entry (i ∷ is) (d ∷ ds) ready made = (
  record {
    trigger = made.0.trigger;
    means =
        let q = input_piece i in
        let piece = made.0.piece in
        let whole : IsReadyPiece c q (trigger_sorts c i.stimulus.name) = record { named = ready.0.named; sorted = ready.0.sorted; places = ready.0.places; few = ready.0.few; small = ready.0.small } in
        means c q (trigger_sorts c i.stimulus.name) entry whole d.piece piece (size_is c q ready.0.named piece.code.numbers piece.code.placed d.piece.code piece.code.code) (Some i.stimulus.name) ready.0.answers;
  },
  inputs_match c entry is ds ready.1 made.1,
)

-- The inputs of all states match, too.
pub states_match : (c : Scope) (iss : List (List Input)) (ds : List DraftState) → AllReady c iss → AllZip (AreInputsOf c) iss ds → AllZip (MatchesInputs c) iss ds
states_match c [] [] ready made = tt
states_match c [] (d ∷ ds) ready made = absurd made
states_match c (is ∷ iss) [] ready made = absurd made
states_match c (is ∷ iss) (d ∷ ds) ready made = (inputs_match c d.set is d.inputs ready.0 made.0, states_match c iss ds ready.1 made.1)

-- One more state has its set.
pub sets_more : (ds : List DraftState) (d : DraftState) (sets : List ℕ) (i : ℕ) → i < length sets → sets_of ds ≡ take i sets → d.set.0 ≡ get_or sets i 0 → sets_of (ds ++ d ∷ []) ≡ take (suc i) sets
sets_more ds d sets i lt e f =
    map-append (λ (d : DraftState). d.set.0) ds (d ∷ []) ∙ ap (λ l. l ++ d.set.0 ∷ []) e ∙ ap (λ v. take i sets ++ v ∷ []) f ∙ sym (take-suc sets i 0 lt)

enumerated : (n : ℕ) (ids : List Identifier) → length (enumerate_from n ids) ≡ length ids
enumerated n [] = refl
enumerated n (id ∷ ids) = ap suc (enumerated (n + 1) ids)

-- Each state has the items of its parts.
pub paired : {X : Type 0} (in_part : PlainState → List X) (p : PlainProcess) → length (by_state in_part p) ≡ length (states_of p)
paired in_part p = length-map (enumerate_from 0 (states_of p)) (λ (s : ℕ × Identifier). of_state in_part p s.0) ∙ enumerated 0 (states_of p)

-- One more item of a list that is made from another one.
pub made_more : {A B : Type 0} (f : A → B) (xs : List A) (i : ℕ) (x : A) → slice_get xs i ≡ Some x → map f (take i xs) ++ f x ∷ [] ≡ map f (take (suc i) xs)
made_more f [] i x e = absurd (let k : ⊥ = cc in k)
made_more f (y ∷ xs) zero x e = let g : y ≡ x = cc in ap (λ y. f y ∷ []) (sym g)
made_more f (y ∷ xs) (suc i) x e = ap (λ l. f y ∷ l) (made_more f xs i x e)
