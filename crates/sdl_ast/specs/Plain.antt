-- The syntax tree as definitions and contracts see it: records and lists, with no `Vec` and no
-- `Box`. Z.100 defines a concrete syntax for each node. Places are byte offsets in the text.
use Rattle.std.specs.Prelude.{ℕ, Bool, List, [], ◌∷◌, Option, Some, None}
use Rattle.std.specs.List.{filter_map}
use Rattle.sdl_ast.specs.declared.expression.Identifier.{Identifier}
use Rattle.sdl_ast.specs.declared.expression.UnaryOperator.{UnaryOperator}
use Rattle.sdl_ast.specs.declared.expression.BinaryOperator.{BinaryOperator}
use Rattle.sdl_ast.specs.declared.tree.Sort.{Sort}
use Rattle.sdl_ast.specs.declared.tree.Party.{Party}
use Rattle.sdl_ast.specs.declared.tree.Constant.{Constant}
use Rattle.sdl_ast.specs.declared.tree.End.{End}
use Rattle.sdl_ast.specs.declared.tree.Range.{Range}
use Rattle.sdl_ast.specs.declared.tree.Range.TheVariants.{Value, Between}
use Rattle.sdl_ast.specs.declared.tree.Destination.{Destination}

-- An expression. The first number is the place of its first token, perhaps an opening parenthesis.
pub data Tree : Type 0 where
  number : ℕ → ℕ → Tree
  truth : ℕ → Bool → Tree
  variable : ℕ → Identifier → Tree
  unary : ℕ → UnaryOperator → Tree → Tree
  binary : ℕ → BinaryOperator → Tree → Tree → Tree

-- `variable := value`
pub record PlainAssignment : Type 0 where
  pub variable : Identifier
  pub value : Tree

-- A signal that an OUTPUT sends, with its parameters.
pub record PlainSending : Type 0 where
  pub signal : Identifier
  pub parameters : List Tree

-- One action of a transition, with the place of its keyword.
pub data PlainAction : Type 0 where
  -- a TASK: its assignments, without the quoted texts in it
  task : ℕ → List PlainAssignment → PlainAction
  -- an OUTPUT: the signals in the order sent, and the destination if one is written
  output : ℕ → List PlainSending → Option Destination → PlainAction
  -- a SET: the delay, and the timer
  set_timer : ℕ → Tree → Identifier → PlainAction
  -- a RESET of a timer
  reset_timer : ℕ → Identifier → PlainAction

mutual
  -- A transition from some statement on. Each statement carries the statements that follow it.
  pub data Text : Type 0 where
    -- the transition has no terminator and runs off its end
    falls : Text
    ends : End → Text
    -- an action, and the statements that follow
    does : PlainAction → Text → Text
    -- a DECISION at a place: question, answers, and the statements after ENDDECISION
    decides : ℕ → Tree → Choice → Text → Text

  -- The answers of a DECISION from some answer on.
  pub data Choice : Type 0 where
    -- there is no ELSE
    nothing_else : Choice
    otherwise : Text → Choice
    -- an answer at a place: the values that it matches, its body, and the other answers
    answer : ℕ → List Range → Text → Choice → Choice

-- The question of a DECISION, with the place of the keyword.
pub record PlainQuestion : Type 0 where
  pub at : ℕ
  pub question : Tree

-- The part of an answer before its body: the values that it matches, and the place of its opening
-- parenthesis.
pub record PlainHead : Type 0 where
  pub at : ℕ
  pub ranges : List Range

-- One statement of a transition, without those that follow it: an action, or a DECISION at a place
-- with its question and answers.
pub data PlainStatement : Type 0 where
  act : PlainAction → PlainStatement
  decide : ℕ → Tree → Choice → PlainStatement

-- One answer, without the others: its place, the values that it matches, and its body.
pub record PlainAnswer : Type 0 where
  pub at : ℕ
  pub ranges : List Range
  pub text : Text

-- prepends one statement, or several, to a transition
abbrev pub before : PlainStatement → Text → Text
before (act action) rest = does action rest
before (decide at question choice) rest = decides at question choice rest

abbrev pub all_before : List PlainStatement → Text → Text
all_before [] rest = rest
all_before (s ∷ statements) rest = before s (all_before statements rest)

-- prepends answers to the other answers
abbrev pub all_answers : List PlainAnswer → Choice → Choice
all_answers [] others = others
all_answers (a ∷ answers) others = answer a.at a.ranges a.text (all_answers answers others)

-- one value, or a range of values
abbrev pub from_to : Constant → Option Constant → Range
from_to low None = Value low
from_to low (Some high) = Between low high

-- A CONNECTION at a place, with the transition that a JOIN to it continues with.
pub record PlainConnection : Type 0 where
  pub at : ℕ
  pub name : Identifier
  pub text : Text

-- A signal, with the variable for each parameter, or none if the parameter is discarded.
pub record PlainStimulus : Type 0 where
  pub name : Identifier
  pub places : List (Option Identifier)

-- An INPUT with its transition.
pub record PlainInput : Type 0 where
  pub at : ℕ
  pub stimuli : List PlainStimulus
  pub text : Text

-- A clause of a STATE part.
pub data PlainClause : Type 0 where
  input : PlainInput → PlainClause
  -- a SAVE
  save : List Identifier → PlainClause

-- A STATE part.
pub record PlainState : Type 0 where
  pub names : List Identifier
  pub clauses : List PlainClause

-- START with its transition.
pub record PlainStart : Type 0 where
  pub at : ℕ
  pub text : Text

-- The variables of one sort, and the initial value that each of them has.
pub record PlainGroup : Type 0 where
  pub names : List Identifier
  pub sort : Sort
  pub initial : Option Constant

-- A synonym: a name for the value of an expression, and the sort of that value if it is written.
pub record PlainSynonym : Type 0 where
  pub name : Identifier
  pub sort : Option Sort
  pub value : Tree

-- A declaration of a process: the groups of a DCL, the timers of a TIMER, or the synonyms of a
-- SYNONYM.
pub data PlainDeclaration : Type 0 where
  variables : List PlainGroup → PlainDeclaration
  timers : List Identifier → PlainDeclaration
  own_synonyms : List PlainSynonym → PlainDeclaration

-- The heading of a process: its name, and the number of instances that run.
pub record PlainProcessHead : Type 0 where
  pub name : Identifier
  pub instances : ℕ

-- A PROCESS.
pub record PlainProcess : Type 0 where
  pub name : Identifier
  pub instances : ℕ
  pub declarations : List PlainDeclaration
  pub start : PlainStart
  pub states : List PlainState
  pub connections : List PlainConnection

-- the heading of a process; if no number is written, there is one instance
abbrev pub process_head : Identifier → Option ℕ → PlainProcessHead
process_head name None = record { name = name; instances = 1 }
process_head name (Some n) = record { name = name; instances = n }

-- A part of the body of a process: a STATE part or a CONNECTION. They may be in any order.
pub data PlainSection : Type 0 where
  in_state : PlainState → PlainSection
  in_connection : PlainConnection → PlainSection

abbrev pub state_in : PlainSection → Option PlainState
state_in (in_state s) = Some s
state_in (in_connection c) = None

abbrev pub connection_in : PlainSection → Option PlainConnection
connection_in (in_state s) = None
connection_in (in_connection c) = Some c

-- The process with these parts of its body. STATE parts and CONNECTIONs are separate lists, each in
-- the order of the text.
abbrev pub process_from :
    PlainProcessHead → List PlainDeclaration → PlainStart → List PlainSection → PlainProcess
process_from head declarations start sections = record {
  name = head.name;
  instances = head.instances;
  declarations = declarations;
  start = start;
  states = filter_map state_in sections;
  connections = filter_map connection_in sections;
}

-- One direction of a route, with the signals that it carries.
pub record PlainPath : Type 0 where
  pub from : Party
  pub to : Party
  pub signals : List Identifier

-- A SIGNALROUTE.
pub record PlainRoute : Type 0 where
  pub name : Identifier
  pub paths : List PlainPath

-- The declaration of a signal.
pub record PlainSignal : Type 0 where
  pub name : Identifier
  pub parameters : List Sort

-- An entity of a block: the signals of a SIGNAL, a SIGNALROUTE, a CONNECT with its channels and
-- routes, the synonyms of a SYNONYM, or a PROCESS.
pub data PlainEntity : Type 0 where
  signals : List PlainSignal → PlainEntity
  route : PlainRoute → PlainEntity
  connect : List Identifier → List Identifier → PlainEntity
  synonyms : List PlainSynonym → PlainEntity
  process : PlainProcess → PlainEntity

-- A text: a block with its entities.
pub record PlainBlock : Type 0 where
  pub name : Identifier
  pub entities : List PlainEntity
