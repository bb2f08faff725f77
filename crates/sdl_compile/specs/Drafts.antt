-- The draft of a process: names and numbers in the order of the text, and pieces that do what the
-- transitions mean.
use Rattle.std.specs.Prelude.{◌≡◌, ℕ, ◌≤◌, List, [], ◌∷◌, length, map, Option, Some, None, IsSome}
use Rattle.std.specs.List.{AllZip}
use Rattle.plain_laws.specs.Limits.{MOST_PARAMETERS, MOST_SIGNALS, MOST_STATES, MOST_TIMERS_EACH}
use Rattle.plain_laws.specs.Limits.{MOST_VARIABLES}
use Rattle.sdl_ast.specs.declared.expression.Identifier.{Identifier}
use Rattle.sdl_ast.specs.Plain.{PlainProcess, PlainBlock}
use Rattle.turn_code.specs.declared.variable_set.VariableSet.{VariableSet}
use Rattle.turn_code.specs.declared.input.Input as code_input
use Rattle.turn_code.specs.declared.draft.DraftPiece.{DraftPiece}
use Rattle.turn_code.specs.declared.draft.DraftInput.{DraftInput}
use Rattle.turn_code.specs.declared.draft.DraftState.{DraftState}
use Rattle.turn_code.specs.declared.draft.DraftProcess.{DraftProcess}
use Rattle.turn_code.specs.Run.{run}
use Rattle.turn_code.specs.Sets.{initial_set}
use Rattle.sdl_tables.specs.Names.{Input, number_of, variables_of, timers_of, states_of}
use Rattle.sdl_tables.specs.Names.{inputs_by_state, saves_by_state, signal_names}
use Rattle.sdl_sound.specs.Longest.{Piece, piece_size, start_piece, input_piece}
use Rattle.sdl_sound.specs.Settled.{AreSettled}
use Rattle.sdl_meaning.specs.Act.{Act, scope_of}
use Rattle.sdl_meaning.specs.Outcomes.{Scope}
use Rattle.sdl_meaning.specs.Named.{AreSorted, NamedPiece, IsSentTo, AnswersAll}
use Rattle.sdl_compile.specs.Made.{IsCodeOf, IsLongestOf, IsPieceOf, IsSmall}
use Rattle.sdl_meaning.specs.Declarations.{drafted_variables, trigger_of, trigger_sorts}

-- ---- the contents of a draft

-- On every input from a possible sender, the run of the piece is the meaning of the transition: its
-- effects, its variables, its end and its count. An input that doesn't fit gets stuck in the same
-- way. In the code of an Integer DECISION the body of ELSE comes before those of the answers.
-- Connections come after all else, each only once. The certificate names the longest path, and the
-- code has as many instructions as the text counts.
pub record MeansPiece (c : Scope) (from : Option Identifier) (q : Piece) (d : DraftPiece) :
    Type 0 where
  pub run_is_act : (x : code_input.Input) → IsSentTo c from x.sender → run d.code x ≡ Act c q x
  pub code : IsCodeOf c q d.code
  pub certificate : IsLongestOf c q d.certificate
  pub size : length d.code ≡ piece_size c.process q

-- An input waits for its signal or timer, and its piece means its transition.
pub record MatchesInput (c : Scope) (i : Input) (d : DraftInput) : Type 0 where
  pub trigger : d.trigger ≡ trigger_of c i.stimulus.name
  pub means : MeansPiece c (Some i.stimulus.name) (input_piece i) d.piece

abbrev pub MatchesInputs : Scope → List Input → DraftState → Type 0
MatchesInputs c is d = AllZip (MatchesInput c) is d.inputs

abbrev pub IsNamedAs : Identifier → DraftState → Type 0
IsNamedAs id d = d.name ≡ id.name

-- A state saves the signals and timers with these names.
abbrev pub SavesAll : Scope → List Identifier → DraftState → Type 0
SavesAll c ids d = d.saves ≡ map (trigger_of c) ids

-- The draft of a process of a block has as many instances. Its variables, timers, states, inputs
-- and saves have their names and numbers in the order of the text.
pub record MatchesProcess (b : PlainBlock) (p : PlainProcess) (d : DraftProcess) : Type 0 where
  pub name : d.name ≡ p.name.name
  pub instances : d.instances ≡ p.instances
  pub variables : d.variables ≡ drafted_variables p
  pub timers : d.timers ≡ map (λ id. id.name) (timers_of p)
  pub start : MeansPiece (scope_of b p) None (start_piece p) d.start
  pub states : AllZip IsNamedAs (states_of p) d.states
  pub saves : AllZip (SavesAll (scope_of b p)) (saves_by_state p) d.states
  pub inputs : AllZip (MatchesInputs (scope_of b p)) (inputs_by_state p) d.states

-- ---- what the compiler requires of a process

-- A name of a signal, or of a timer of the process.
abbrev pub IsTrigger : Scope → Identifier → Type 0
IsTrigger c id =
    number_of (signal_names c.block) id.name ≡ None
    → IsSome (number_of (timers_of c.process) id.name)

-- An input with known names and with places for its parameters, within the limits.
pub record IsReadyInput (c : Scope) (i : Input) : Type 0 where
  pub named : NamedPiece c (input_piece i)
  pub answers : AnswersAll c (Some i.stimulus.name) i.text
  pub sorted : AreSorted c i.text
  pub small : IsSmall c (input_piece i)
  pub trigger : IsTrigger c i.stimulus.name
  pub places : length i.stimulus.places ≤ length (trigger_sorts c i.stimulus.name)
  pub few : length i.stimulus.places ≤ MOST_PARAMETERS

abbrev pub AreReady : Scope → List Input → Type 0
AreReady c [] = Unit {0}
AreReady c (i ∷ is) = IsReadyInput c i × AreReady c is

abbrev pub AllReady : Scope → List (List Input) → Type 0
AllReady c [] = Unit {0}
AllReady c (is ∷ rest) = AreReady c is × AllReady c rest

abbrev pub AreTriggers : Scope → List Identifier → Type 0
AreTriggers c [] = Unit {0}
AreTriggers c (id ∷ ids) = IsTrigger c id × AreTriggers c ids

abbrev pub AllTriggers : Scope → List (List Identifier) → Type 0
AllTriggers c [] = Unit {0}
AllTriggers c (ids ∷ rest) = AreTriggers c ids × AllTriggers c rest

-- A process with known names, within the limits.
pub record IsReadyProcess (c : Scope) : Type 0 where
  pub variables : length (variables_of c.process) ≤ MOST_VARIABLES
  pub timers : length (timers_of c.process) ≤ MOST_TIMERS_EACH
  pub states : length (states_of c.process) ≤ MOST_STATES
  pub signals : length (signal_names c.block) ≤ MOST_SIGNALS
  pub start : NamedPiece c (start_piece c.process)
  pub answers : AnswersAll c None (start_piece c.process).text
  pub sorted : AreSorted c (start_piece c.process).text
  pub small : IsSmall c (start_piece c.process)
  pub inputs : AllReady c (inputs_by_state c.process)
  pub saves : AllTriggers c (saves_by_state c.process)

-- ---- the result of the compiler for an input

pub record IsInputOf (c : Scope) (entry : VariableSet) (i : Input) (d : DraftInput) : Type 0 where
  pub trigger : d.trigger ≡ trigger_of c i.stimulus.name
  pub piece : IsPieceOf c (trigger_sorts c i.stimulus.name) entry (input_piece i) d.piece

-- The inputs of a state, which is entered with its set of variables.
abbrev pub AreInputsOf : Scope → List Input → DraftState → Type 0
AreInputsOf c is d = AllZip (IsInputOf c d.set) is d.inputs

-- The set of each state.
abbrev pub sets_of : List DraftState → List ℕ
sets_of ds = map (λ (d : DraftState). d.set.0) ds

-- ---- the result of the compiler for a process

-- The pieces of a process, which begin with the sets of their states.
pub record IsProcessOf (b : PlainBlock) (p : PlainProcess) (d : DraftProcess) : Type 0 where
  pub instances : d.instances ≡ p.instances
  pub variables : d.variables ≡ drafted_variables p
  pub timers : d.timers ≡ map (λ id. id.name) (timers_of p)
  pub start : IsPieceOf (scope_of b p) [] (initial_set d.variables) (start_piece p) d.start
  pub saves : AllZip (SavesAll (scope_of b p)) (saves_by_state p) d.states
  pub inputs : AllZip (AreInputsOf (scope_of b p)) (inputs_by_state p) d.states
  pub settled : AreSettled p (sets_of d.states)
