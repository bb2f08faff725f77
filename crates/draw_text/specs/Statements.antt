-- Statements and the stimuli of an INPUT, as they are written in pictures.
use Rattle.std.specs.Prelude.{ℕ, Bool, true, false, List, [], ◌∷◌, ◌++◌, Option, None, Some, codes}
use Rattle.std.specs.List.{flat_map}
use Rattle.std.specs.Fmt.{signed_decimal}
use Rattle.sdl_tables.specs.Names.{signal_names, process_names, variable_names, timers_of}
use Rattle.sdl_tables.specs.Routes.{receivers}
use Rattle.sdl_ast.specs.Plain.{Tree, PlainAssignment, PlainSending, PlainStimulus, PlainProcess}
use Rattle.sdl_ast.specs.Plain.{PlainBlock}
use Rattle.sdl_ast.specs.declared.expression.Identifier.{Identifier}
use Rattle.sdl_ast.specs.declared.tree.Constant.{Constant}
use Rattle.sdl_ast.specs.declared.tree.Literal.{Literal}
use Rattle.sdl_ast.specs.declared.tree.Literal.TheVariants as literals
use Rattle.sdl_ast.specs.declared.tree.Range.{Range}
use Rattle.sdl_ast.specs.declared.tree.Range.TheVariants.{Value, Compared, Between}
use Rattle.sdl_ast.specs.declared.tree.Relation.{Relation}
use Rattle.sdl_ast.specs.declared.tree.Relation.TheVariants as relations
use Rattle.sdl_ast.specs.declared.tree.Sort.{Sort}
use Rattle.sdl_ast.specs.declared.tree.Sort.TheVariants as sorts
use Rattle.sdl_ast.specs.declared.tree.Party.{Party}
use Rattle.sdl_ast.specs.declared.tree.Party.TheVariants.{Environment, Process}
use Rattle.sdl_ast.specs.declared.tree.Destination.{Destination}
use Rattle.sdl_ast.specs.declared.tree.Destination.TheVariants as destinations
use Rattle.draw_text.specs.Written.{spelled, row_text, truth_text, tree_text}

-- ---- constants

abbrev pub sort_text : Sort → List ℕ
sort_text sorts.Integer = codes "Integer"
sort_text sorts.Boolean = codes "Boolean"

abbrev pub relation_text : Relation → List ℕ
relation_text relations.Equal = codes "= "
relation_text relations.NotEqual = codes "/= "
relation_text relations.Less = codes "< "
relation_text relations.LessEqual = codes "<= "
relation_text relations.Greater = codes "> "
relation_text relations.GreaterEqual = codes ">= "

abbrev pub literal_text : Literal → List ℕ
literal_text (literals.Integer n) = signed_decimal n
literal_text (literals.Boolean b) = truth_text b

abbrev pub minus_text : Bool → List ℕ
minus_text true = codes "-"
minus_text false = []

-- a synonym as it is written
abbrev pub use_text : Literal → Bool → Option Identifier → List ℕ
use_text v negated None = literal_text v
use_text v negated (Some id) = minus_text negated ++ id.name

abbrev pub constant_text : Constant → List ℕ
constant_text c = use_text c.value c.is_negated c.synonym

abbrev pub range_text : Range → List ℕ
range_text (Value c) = constant_text c
range_text (Compared at relation c) = relation_text relation ++ constant_text c
range_text (Between low high) = constant_text low ++ codes ":" ++ constant_text high

abbrev pub ranges_text : List Range → List ℕ
ranges_text ranges = row_text range_text (codes ", ") ranges

-- ---- statements

-- an expression of a process, without parentheses around the whole
abbrev pub value_text : PlainProcess → Tree → List ℕ
value_text p tree = tree_text (variable_names p) 0 tree

abbrev pub assignment_text : PlainProcess → PlainAssignment → List ℕ
assignment_text p a =
    spelled (variable_names p) a.variable.name ++ codes " := " ++ value_text p a.value

-- the delay of a SET, counted from now
abbrev pub delay_text : PlainProcess → Tree → List ℕ
delay_text p tree = value_text p tree

abbrev pub timer_text : PlainProcess → Identifier → List ℕ
timer_text p timer = spelled (timers_of p) timer.name

-- arguments in parentheses; nothing if there are none
abbrev pub arguments_text : {A : Type 0} → (A → List ℕ) → List A → List ℕ
arguments_text f [] = []
arguments_text f (x ∷ xs) = codes "(" ++ row_text f (codes ", ") (x ∷ xs) ++ codes ")"

-- the signal of an OUTPUT, with its parameters
abbrev pub sending_text : PlainBlock → PlainProcess → PlainSending → List ℕ
sending_text b p s =
    spelled (signal_names b) s.signal.name ++ arguments_text (value_text p) s.parameters

abbrev pub party_text : PlainBlock → Party → List ℕ
party_text b Environment = codes "ENV"
party_text b (Process id) = spelled (process_names b) id.name

-- the first of these parties
abbrev pub first_party_text : PlainBlock → List Party → List ℕ
first_party_text b [] = []
first_party_text b (q ∷ qs) = party_text b q

-- the receiver of a signal of a process: the OUTPUT's destination, else the route's first receiver
abbrev pub receiver_text : PlainBlock → PlainProcess → Option Destination → Identifier → List ℕ
receiver_text b p (Some (destinations.Sender at)) signal = codes "SENDER"
receiver_text b p (Some (destinations.Process id)) signal = spelled (process_names b) id.name
receiver_text b p None signal = first_party_text b (receivers b (Process p.name) signal.name)

-- ---- the stimuli of an INPUT

-- the variable that takes a parameter; nothing if the parameter is discarded
abbrev pub place_text : PlainProcess → Option Identifier → List ℕ
place_text p None = []
place_text p (Some id) = spelled (variable_names p) id.name

-- the name of a signal or of a timer
abbrev pub trigger_text : PlainBlock → PlainProcess → List ℕ → List ℕ
trigger_text b p name = spelled (timers_of p) (spelled (signal_names b) name)

abbrev pub stimulus_text : PlainBlock → PlainProcess → PlainStimulus → List ℕ
stimulus_text b p s = trigger_text b p s.name.name ++ arguments_text (place_text p) s.places

-- the signals and timers that an INPUT consumes, each on its own line
abbrev pub stimuli_text : PlainBlock → PlainProcess → List PlainStimulus → List ℕ
stimuli_text b p stimuli = row_text (stimulus_text b p) (codes ",\n") stimuli

-- the signals and timers of a SAVE, each on its own line
abbrev pub triggers_text : PlainBlock → PlainProcess → List Identifier → List ℕ
triggers_text b p ids = row_text (λ id. trigger_text b p id.name) (codes ",\n") ids
