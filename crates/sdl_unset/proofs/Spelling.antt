-- The names of a path are spelled as they are declared.
use Rattle.std.proofs.Common.{◌≡◌, ℕ, Bool, true, false, ◌||◌, if◌then◌else◌, List, [], ◌∷◌, ◌++◌, map, Option, None, Some, refl, sym, ap, ◌∙◌, subst, true≢false}
use Rattle.std.specs.Prelude.{slice_get, Contains, All}
use Rattle.std.specs.List.{AllZip, flat_map, position_or_len}
use Rattle.std.specs.Option.{option_map, option_map_or, option_and_then}
use Rattle.std.proofs.lemmas.List.Folds.{find_at}
use Rattle.std.proofs.lemmas.List.Elements.{All-nil, All-cons, Contains-append_left, Contains-append_right}
use Rattle.std.proofs.lemmas.Option.{slice_get-map}
use Rattle.sdl_unset.specs.declared.paths.Step as number
use Rattle.sdl_unset.specs.declared.paths.Step.TheVariants.{Start as First, Input as By}
use Rattle.sdl_ast.specs.Plain.{PlainBlock, PlainInput, PlainProcess, PlainSignal, PlainStimulus, input}
use Rattle.sdl_ast.specs.declared.expression.Identifier.{Identifier}
use Rattle.sdl_tables.specs.Names.{same_name, is_in, number_of, signals_of, signal_names, signal_named, variable_names, timers_of, states_of, clause_inputs, Input, inputs_of, input_parts}
use Rattle.sdl_sound.specs.Actions.{in_statements}
use Rattle.sdl_sound.specs.Names.{unknown, trigger_names, place_names, stimulus_unknown, input_unknown, saves_unknown, statement_unknown, process_unknown}
use Rattle.sdl_unset.specs.Fates.{IsNamed, declared_name, IsSpelled}
use Rattle.sdl_sound.specs.Spellings.{IsSpelling, IsDeclaredStep}
use Rattle.sdl_sound.specs.declared.fault.Step.{Step}
use Rattle.sdl_sound.proofs.Items.{Each, each_map, each_with, each_nil, each_unfound, each_at}
use Rattle.sdl_unset.proofs.Ranks.{inputs_by}
use Rattle.sdl_sound.proofs.Numbered.{folded_same, number_names, nowhere}
use Rattle.sdl_unset.proofs.Numbers.{has_number}
use Rattle.plain_laws.proofs.Lists.{test_known, append-nil_left as nil_front}
use Rattle.plain_laws.proofs.Places.{among_at}

-- ---- the signals and timers that a state takes are declared

stimulus_known : (b : PlainBlock) (p : PlainProcess) (s : PlainStimulus) → stimulus_unknown b p s ≡ [] → is_in (trigger_names b p) s.name.name ≡ true
stimulus_known b p s none =
    let one : (if is_in (trigger_names b p) s.name.name then [] else s.name.at ∷ []) ++ [] ≡ [] =
    nil_front (unknown (trigger_names b p) (s.name ∷ [])) (unknown (variable_names p) (place_names s.places)) none in
    test_known (is_in (trigger_names b p) s.name.name) s.name.at (nil_front (if is_in (trigger_names b p) s.name.name then [] else s.name.at ∷ []) [] one)

abbrev IsKnownInput : PlainBlock → PlainProcess → Input → Type 0
IsKnownInput b p i = is_in (trigger_names b p) i.stimulus.name.name ≡ true

input_known : (b : PlainBlock) (p : PlainProcess) (i : PlainInput) → input_unknown b p i ≡ [] → Each (IsKnownInput b p) (clause_inputs (input i))
input_known b p i none =
    each_map (IsKnownInput b p) (λ (s : PlainStimulus). record { at = i.at; stimulus = s; text = i.text }) i.stimuli
    (each_with (λ (s : PlainStimulus). stimulus_unknown b p s ≡ []) (λ (s : PlainStimulus). is_in (trigger_names b p) s.name.name ≡ true)
    (stimulus_known b p) i.stimuli (each_nil (stimulus_unknown b p) i.stimuli none))

inputs_known : (b : PlainBlock) (p : PlainProcess) (q : ℕ) → process_unknown b p ≡ [] → Each (IsKnownInput b p) (inputs_of p q)
inputs_known b p q known =
    let inputs = flat_map (input_unknown b p) (input_parts p) in
    let saves = flat_map (saves_unknown b p) p.states in
    let all = in_statements (λ from. statement_unknown b p) p in
    inputs_by (λ (i : PlainInput). input_unknown b p i ≡ []) (IsKnownInput b p) (input_known b p) p q
    (each_nil (input_unknown b p) (input_parts p) (nil_front inputs (saves ++ all) known))

-- ---- a name with its spelling

spelling_of : (ids : List Identifier) (id : Identifier) → Contains ids id → IsSpelling ids id.name
spelling_of ids id there = (there.0, id, there.1, there.2, refl)

pub spelling_at : (ids : List Identifier) (k : ℕ) (id : Identifier) → slice_get ids k ≡ Some id → IsSpelling ids id.name
spelling_at ids k id at = spelling_of ids id (among_at ids k id at)

-- If no signal has a name, only the other identifiers can have it.
not_signal : (ss : List PlainSignal) (x : List ℕ) → Each (λ (s : PlainSignal). same_name x s.name.name ≡ false) ss → (ids : List Identifier)
    → is_in (map (λ (s : PlainSignal). s.name) ss ++ ids) x ≡ is_in ids x
not_signal [] x none ids = refl
not_signal (s ∷ ss) x none ids =
    ap (λ (b : Bool). b || is_in (map (λ (s : PlainSignal). s.name) ss ++ ids) x) none.0 ∙ not_signal ss x none.1 ids

-- The name of a timer.
abbrev timer_by : List Identifier → Option ℕ → List ℕ → List ℕ
timer_by ids o x = option_map_or (λ (id : Identifier). id.name) (option_and_then (slice_get ids) o) x

by_timer : (b : PlainBlock) (p : PlainProcess) (x : List ℕ) (o : Option ℕ) → number_of (timers_of p) x ≡ o → is_in (timers_of p) x ≡ true
    → IsSpelling (trigger_names b p) (timer_by (timers_of p) o x)
by_timer b p x None e known =
    let there = has_number (timers_of p) x known in
    absurd (true≢false (sym (folded_same x there.1.name there.3) ∙ nowhere (timers_of p) x there.0 there.1 e there.2))
by_timer b p x (Some n) e known =
    let timer = number_names (timers_of p) x n e in
    subst (λ (o : Option Identifier). IsSpelling (trigger_names b p) (option_map_or (λ (id : Identifier). id.name) o x)) (sym timer.1)
    (spelling_of (trigger_names b p) timer.0 (Contains-append_right (signal_names b) (timers_of p) timer.0 (among_at (timers_of p) n timer.0 timer.1)))

by_signal : (b : PlainBlock) (p : PlainProcess) (x : List ℕ) (o : Option PlainSignal) → signal_named b x ≡ o → is_in (trigger_names b p) x ≡ true
    → IsSpelling (trigger_names b p) (option_map_or (λ (s : PlainSignal). s.name.name) o (timer_by (timers_of p) (number_of (timers_of p) x) x))
by_signal b p x None e known =
    let test = λ (s : PlainSignal). same_name x s.name.name in
    by_timer b p x (number_of (timers_of p) x) refl (sym (not_signal (signals_of b) x (each_unfound test (signals_of b) e) (timers_of p)) ∙ known)
by_signal b p x (Some s) e known =
    let test = λ (s : PlainSignal). same_name x s.name.name in
    let k = position_or_len test (signals_of b) in
    let at : slice_get (signals_of b) k ≡ Some s = sym (find_at test (signals_of b)) ∙ e in
    let named : slice_get (signal_names b) k ≡ Some s.name =
    slice_get-map (λ (s : PlainSignal). s.name) (signals_of b) k ∙ ap (option_map (λ (s : PlainSignal). s.name)) at in
    spelling_of (trigger_names b p) s.name (Contains-append_left (signal_names b) (timers_of p) s.name (among_at (signal_names b) k s.name named))

declared_spelling : (b : PlainBlock) (p : PlainProcess) (x : List ℕ) → is_in (trigger_names b p) x ≡ true → IsSpelling (trigger_names b p) (declared_name b p x)
declared_spelling b p x known = by_signal b p x (signal_named b x) refl known

-- ---- steps

declared_step : (b : PlainBlock) (p : PlainProcess) (k : number.Step) (n : Step) → process_unknown b p ≡ [] → IsNamed p k n → IsSpelled b p k n
    → IsDeclaredStep b p n
declared_step b p First n known named spelled = subst (IsDeclaredStep b p) (sym named) tt
declared_step b p (By q i) n known (id, state, inp, there, signal, same, is) spelled =
    let heard : signal ≡ declared_name b p inp.stimulus.name.name = spelled inp there id.name signal is in
    let told : is_in (trigger_names b p) inp.stimulus.name.name ≡ true =
    each_at (IsKnownInput b p) (inputs_of p q) inp (inputs_known b p q known) (among_at (inputs_of p q) i inp there) in
    let spelling : IsSpelling (trigger_names b p) signal =
    subst (IsSpelling (trigger_names b p)) (sym heard) (declared_spelling b p inp.stimulus.name.name told) in
    subst (IsDeclaredStep b p) (sym is) (spelling_at (states_of p) q id state, spelling)

pub declared_steps : (b : PlainBlock) (p : PlainProcess) (path : List number.Step) (steps : List Step) → process_unknown b p ≡ []
    → AllZip (IsNamed p) path steps → AllZip (IsSpelled b p) path steps → All (IsDeclaredStep b p) steps
declared_steps b p [] [] known named spelled = All-nil (IsDeclaredStep b p)
declared_steps b p [] (n ∷ steps) known named spelled = absurd named
declared_steps b p (k ∷ path) [] known named spelled = absurd named
declared_steps b p (k ∷ path) (n ∷ steps) known named spelled =
    All-cons (IsDeclaredStep b p) n steps (declared_step b p k n known named.0 spelled.0) (declared_steps b p path steps known named.1 spelled.1)
