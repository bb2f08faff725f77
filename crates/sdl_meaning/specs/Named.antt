-- Texts with declared names only, a receiver for each signal, and an answer for each value of a
-- question.
use Rattle.std.specs.Prelude.{◌≡◌, ℕ, ◌<◌, ◌≤◌, true, false, List, [], ◌∷◌, length, All, Contains}
use Rattle.std.specs.Prelude.{Option, None, Some, IsSome, slice_get}
use Rattle.sdl_ast.specs.declared.expression.Identifier.{Identifier}
use Rattle.sdl_ast.specs.declared.tree.Party as tree_party
use Rattle.sdl_ast.specs.declared.tree.Destination.{Destination}
use Rattle.sdl_ast.specs.declared.tree.Destination.TheVariants as address
use Rattle.sdl_ast.specs.declared.tree.End.{End}
use Rattle.sdl_ast.specs.declared.tree.End.TheVariants.{NextState, Stop, Join}
use Rattle.sdl_ast.specs.declared.tree.Join as tree_join
use Rattle.sdl_ast.specs.declared.tree.Range.{Range}
use Rattle.sdl_ast.specs.Plain.{Tree, number, truth, variable, unary, binary, PlainAssignment}
use Rattle.sdl_ast.specs.Plain.{PlainSending, PlainAction, task, output, set_timer, reset_timer}
use Rattle.sdl_ast.specs.Plain.{Text, falls, ends, does, decides, Choice, nothing_else, otherwise}
use Rattle.sdl_ast.specs.Plain.{answer, PlainConnection}
use Rattle.turn_code.specs.declared.input.Address.{Address}
use Rattle.std.specs.List.{flat_map}
use Rattle.plain_laws.specs.Limits.{MOST_PARAMETERS}
use Rattle.sdl_tables.specs.Names.{variables_of}
use Rattle.sdl_sound.specs.Statements.{statements_of, joins_of}
use Rattle.sdl_sound.specs.Going.{goes_on, choice_goes_on}
use Rattle.sdl_sound.specs.Sorts.{answers_question, wrong_statement}
use Rattle.sdl_sound.specs.Decisions.{is_answered}
use Rattle.sdl_sound.specs.Joins.{reached}
use Rattle.sdl_sound.specs.Longest.{Piece}
use Rattle.sdl_sound.specs.Receivers.{party_of, carries}
use Rattle.sdl_meaning.specs.Act.{named, to_sender, receiver_of}
use Rattle.sdl_meaning.specs.Outcomes.{Scope, variable_at, state_at, timer_at, connector_at}
use Rattle.sdl_meaning.specs.Outcomes.{signal_at}

abbrev pub NamedTree : Scope → Tree → Type 0
NamedTree c (number at k) = Unit {0}
NamedTree c (truth at b) = Unit {0}
NamedTree c (variable at n) = IsSome (variable_at c n)
NamedTree c (unary at op t) = NamedTree c t
NamedTree c (binary at op t u) = NamedTree c t × NamedTree c u

abbrev pub NamedTrees : Scope → List Tree → Type 0
NamedTrees c [] = Unit {0}
NamedTrees c (t ∷ ts) = NamedTree c t × NamedTrees c ts

abbrev pub NamedTasks : Scope → List PlainAssignment → Type 0
NamedTasks c [] = Unit {0}
NamedTasks c (a ∷ rest) =
    NamedTree c a.value × IsSome (variable_at c a.variable) × NamedTasks c rest

-- The signal has a receiver. The sender is known only as the transition runs.
abbrev pub HasReceiver : Scope → Option Destination → Identifier → Type 0
HasReceiver c None n = IsSome (receiver_of c None None n)
HasReceiver c (Some (address.Process id)) n =
    IsSome (receiver_of c None (Some (address.Process id)) n)
HasReceiver c (Some (address.Sender at)) n = Unit {0}

-- A signal that a text sends, with at most as many parameters as a signal may have.
pub record NamedSending (c : Scope) (to : Option Destination) (x : PlainSending) : Type 0 where
  pub parameters : NamedTrees c x.parameters
  pub few : length x.parameters ≤ MOST_PARAMETERS
  pub signal : IsSome (signal_at c x.signal)
  pub receiver : HasReceiver c to x.signal

abbrev pub NamedSendings : Scope → Option Destination → List PlainSending → Type 0
NamedSendings c to [] = Unit {0}
NamedSendings c to (x ∷ rest) = NamedSending c to x × NamedSendings c to rest

abbrev pub NamedAction : Scope → PlainAction → Type 0
NamedAction c (task at ts) = NamedTasks c ts
NamedAction c (output at xs to) = NamedSendings c to xs
NamedAction c (set_timer at t n) = NamedTree c t × IsSome (timer_at c n)
NamedAction c (reset_timer at n) = IsSome (timer_at c n)

abbrev pub NamedEnd : Scope → End → Type 0
NamedEnd c (NextState n) = IsSome (state_at c n.state)
NamedEnd c (Stop at) = Unit {0}
NamedEnd c (Join j) = IsSome (connector_at c j.connector)

-- Ranges of the sort of a question.
abbrev pub AnswerTo : Scope → Tree → List Range → Type 0
AnswerTo c q [] = Unit {0}
AnswerTo c q (r ∷ rs) = (answers_question (variables_of c.process) q r ≡ true) × AnswerTo c q rs

-- A DECISION: its question has known names, each value of it has an answer, and nothing follows the
-- DECISION if no body goes on.
pub record NamedDecision (c : Scope) (q : Tree) (choice : Choice) (rest : Text) : Type 0 where
  pub question : NamedTree c q
  pub answered : is_answered (variables_of c.process) q choice ≡ true
  pub reached : choice_goes_on choice ≡ false → rest ≡ falls

abbrev mutual
  pub NamedText : Scope → Text → Type 0
  NamedText c falls = Unit {0}
  NamedText c (ends e) = NamedEnd c e
  NamedText c (does a rest) = NamedAction c a × NamedText c rest
  NamedText c (decides at q choice rest) =
      NamedDecision c q choice rest × NamedChoice c q choice × NamedText c rest

  -- The answers to a question, which have its sort.
  pub NamedChoice : Scope → Tree → Choice → Type 0
  NamedChoice c q nothing_else = Unit {0}
  NamedChoice c q (otherwise body) = NamedText c body
  NamedChoice c q (answer at rs body others) =
      AnswerTo c q rs × NamedText c body × NamedChoice c q others

-- The operands, values, parameters and answers of a text have the right sorts.
abbrev pub AreSorted : Scope → Text → Type 0
AreSorted c t = flat_map (wrong_statement c.block (variables_of c.process)) (statements_of t) ≡ []

-- A text that doesn't run off its end.
pub record NamedWhole (c : Scope) (t : Text) : Type 0 where
  pub text : NamedText c t
  pub ended : goes_on t ≡ false

-- The connections of a process, no two with the same name. Each has a number of steps, and each
-- JOIN in it leads to a connection with fewer steps.
pub record NamedConnections (c : Scope) : Type 0 where
  pub texts :
      (n : ℕ) (k : PlainConnection) → slice_get c.process.connections n ≡ Some k
      → NamedWhole c k.text
  pub sorted :
      (n : ℕ) (k : PlainConnection) → slice_get c.process.connections n ≡ Some k
      → AreSorted c k.text
  pub numbered :
      (n : ℕ) (k : PlainConnection) → slice_get c.process.connections n ≡ Some k
      → connector_at c k.name ≡ Some n
  pub steps : ℕ → ℕ
  pub few : (n : ℕ) → n < length c.process.connections → steps n < length c.process.connections
  pub fewer :
      (n m : ℕ) (k : PlainConnection) (j : tree_join.Join)
      → slice_get c.process.connections n ≡ Some k → Contains (joins_of k.text) j
      → connector_at c j.connector ≡ Some m → steps m < steps n

abbrev pub NamedPlaces : Scope → List (Option Identifier) → Type 0
NamedPlaces c [] = Unit {0}
NamedPlaces c (None ∷ rest) = NamedPlaces c rest
NamedPlaces c (Some n ∷ rest) = IsSome (variable_at c n) × NamedPlaces c rest

pub record NamedPiece (c : Scope) (q : Piece) : Type 0 where
  pub places : NamedPlaces c q.places
  pub text : NamedWhole c q.text
  pub connections : NamedConnections c

-- ---- the senders of what a transition waits for

-- There is a sender, and a route carries the signal from it to this process.
abbrev pub IsBroughtBy : Scope → Identifier → Option Address → Type 0
IsBroughtBy c n None = ⊥
IsBroughtBy c n (Some p) =
    (q : tree_party.Party) × (named c p.party ≡ Some q)
    × (carries c.block q (party_of c.process) n.name ≡ true)

-- For a signal, a route carries it from the sender; for a timer, any sender will do.
abbrev pub IsSentIf : Scope → Identifier → Option ℕ → Option Address → Type 0
IsSentIf c n None sender = Unit {0}
IsSentIf c n (Some k) sender = IsBroughtBy c n sender

-- The possible senders of what starts a transition. Nothing starts that of START.
abbrev pub IsSentTo : Scope → Option Identifier → Option Address → Type 0
IsSentTo c None sender = Unit {0}
IsSentTo c (Some n) sender = IsSentIf c n (signal_at c n) sender

-- Each of the signals reaches every possible sender of the signal that starts the transition.
abbrev pub AnswerAll : Scope → Option Identifier → List PlainSending → Type 0
AnswerAll c from [] = Unit {0}
AnswerAll c from (x ∷ rest) =
    ((sender : Option Address) → IsSentTo c from sender
    → IsSome (to_sender c x.signal sender)) × AnswerAll c from rest

abbrev pub AnswersTo : Scope → Option Identifier → Option Destination → List PlainSending → Type 0
AnswersTo c from None xs = Unit {0}
AnswersTo c from (Some (address.Process id)) xs = Unit {0}
AnswersTo c from (Some (address.Sender at)) xs = AnswerAll c from xs

abbrev pub AnswersAction : Scope → Option Identifier → PlainAction → Type 0
AnswersAction c from (task at ts) = Unit {0}
AnswersAction c from (output at xs to) = AnswersTo c from to xs
AnswersAction c from (set_timer at t n) = Unit {0}
AnswersAction c from (reset_timer at n) = Unit {0}

-- Each signal that a text sends TO SENDER arrives, for every possible sender.
abbrev mutual
  pub AnswersSenders : Scope → Option Identifier → Text → Type 0
  AnswersSenders c from falls = Unit {0}
  AnswersSenders c from (ends e) = Unit {0}
  AnswersSenders c from (does a rest) = AnswersAction c from a × AnswersSenders c from rest
  AnswersSenders c from (decides at q choice rest) =
      ChoiceAnswers c from choice × AnswersSenders c from rest

  pub ChoiceAnswers : Scope → Option Identifier → Choice → Type 0
  ChoiceAnswers c from nothing_else = Unit {0}
  ChoiceAnswers c from (otherwise body) = AnswersSenders c from body
  ChoiceAnswers c from (answer at rs body others) =
      AnswersSenders c from body × ChoiceAnswers c from others

-- As `AnswersSenders`, for a transition and the connections to which it leads.
pub record AnswersAll (c : Scope) (from : Option Identifier) (t : Text) : Type 0 where
  pub text : AnswersSenders c from t
  pub connections :
      All (λ (k : PlainConnection). AnswersSenders c from k.text) (reached c.process t)
