-- Control paths, and reads of variables that aren't set before. (Z.100: the transitions of a
-- process graph.)
use Rattle.std.specs.Prelude.{◌≡◌, ◌⊎◌, ◌<◌, ◌≤◌, ℕ, zero, suc, Bool, true, false, not, ◌&&◌, ◌||◌}
use Rattle.std.specs.Prelude.{List, [], ◌∷◌, ◌++◌, length, Option, None, Some, if◌then◌else◌, map}
use Rattle.std.specs.Prelude.{All, Contains, is_some}
use Rattle.std.specs.List.{flat_map}
use Rattle.std.specs.Option.{option_map_or}
use Rattle.sdl_tables.specs.sdl_ast_types.tree.End.TheVariants.{NextState, Stop, Join}
use Rattle.sdl_tables.specs.Plain.{Tree, PlainAssignment, PlainSending, PlainAction, task, output}
use Rattle.sdl_tables.specs.Plain.{set_timer, reset_timer, Text, falls, ends, does, decides, Choice}
use Rattle.sdl_tables.specs.Plain.{nothing_else, otherwise, answer, PlainConnection, PlainProcess}
use Rattle.sdl_tables.specs.Names.{same_name, number_of, Variable, variables_of, connection_named}
use Rattle.sdl_tables.specs.Names.{states_of, Input, inputs_of, stimulus_of}
use Rattle.sdl_sound.specs.Names.{tree_names, place_names}
use Rattle.sdl_sound.specs.declared.fault.Step.{Step}
use Rattle.sdl_sound.specs.declared.fault.Step.TheVariants.{Start, Input as Takes}

-- a variable is read, or set
pub data Event : Type 0 where
  reads : List ℕ → Event
  sets : List ℕ → Event

-- an expression reads its variables
abbrev pub tree_events : Tree → List Event
tree_events t = map (λ id. reads id.name) (tree_names t)

-- an assignment reads the variables of its value, and then sets its own
abbrev pub assignment_events : PlainAssignment → List Event
assignment_events a = tree_events a.value ++ sets a.variable.name ∷ []

-- a signal sent reads its parameters, in order
abbrev pub sending_events : PlainSending → List Event
sending_events s = flat_map tree_events s.parameters

-- an action; a SET reads its delay
abbrev pub action_events : PlainAction → List Event
action_events (task at assignments) = flat_map assignment_events assignments
action_events (output at sendings to) = flat_map sending_events sendings
action_events (set_timer at delay timer) = tree_events delay
action_events (reset_timer at timer) = []

-- How a walk of a text ends: it runs off the text's end, and the statements after the text are
-- next; it stops; or it ends in the state with a name.
pub data Way : Type 0 where
  onward : Way
  stops : Way
  enters : List ℕ → Way

-- The statements after a DECISION are walked if the body runs off its end, and not otherwise.
abbrev pub GoesOn : Way → (List Event → Way → Type 0) → List Event → Way → Type 0
GoesOn onward rest after way = rest after way
GoesOn stops rest after way = (after ≡ []) × (way ≡ stops)
GoesOn (enters s) rest after way = (after ≡ []) × (way ≡ enters s)

abbrev mutual
  -- A walk of a text: its reads and sets in order, and how it ends. A DECISION reads its question,
  -- and then one of its bodies is walked. A JOIN continues with a walk of its connection, which
  -- `join` describes.
  pub Walks : (List ℕ → List Event → Way → Type 0) → Text → List Event → Way → Type 0
  Walks join falls events way = (events ≡ []) × (way ≡ onward)
  Walks join (ends (NextState n)) events way = (events ≡ []) × (way ≡ enters n.state.name)
  Walks join (ends (Stop at)) events way = (events ≡ []) × (way ≡ stops)
  Walks join (ends (Join j)) events way = join j.connector.name events way
  Walks join (does action rest) events way =
      (after : List Event) × (events ≡ action_events action ++ after) × Walks join rest after way
  Walks join (decides at q c rest) events way =
      (chosen after : List Event) × (between : Way) × (events ≡ tree_events q ++ (chosen ++ after))
      × IsChosen join c chosen between × GoesOn between (Walks join rest) after way

  -- a walk of one of the bodies; any range of an answer may select its body
  pub IsChosen : (List ℕ → List Event → Way → Type 0) → Choice → List Event → Way → Type 0
  IsChosen join nothing_else events way = ⊥
  IsChosen join (otherwise body) events way = Walks join body events way
  IsChosen join (answer at ranges body others) events way =
      Walks join body events way ⊎ IsChosen join others events way

-- nothing follows the text of a connection
abbrev pub last_way : Way → Way
last_way onward = stops
last_way stops = stops
last_way (enters s) = enters s

-- a walk of the connection with a name that follows fewer than n JOINs
abbrev pub Follows : PlainProcess → ℕ → List ℕ → List Event → Way → Type 0
Follows p zero x events way = ⊥
Follows p (suc n) x events way =
    (c : PlainConnection) × (connection_named p x ≡ Some c)
    × (inner : Way) × Walks (Follows p n) c.text events inner × (way ≡ last_way inner)

-- the state in which a walk of a transition ends; none if it stops or runs off its end
abbrev pub way_state : Way → Option (List ℕ)
way_state onward = None
way_state stops = None
way_state (enters s) = Some s

-- A walk of a transition or of a connection, with any number of JOINs.
abbrev pub IsWalk : PlainProcess → Text → List Event → Option (List ℕ) → Type 0
IsWalk p t events end =
    (n : ℕ) × (way : Way) × Walks (Follows p n) t events way × (end ≡ way_state way)

-- A transition: the variables set before its text, and its text.
pub record Transition : Type 0 where
  pub first : List Event
  pub text : Text

-- START's transition follows the initial values
abbrev pub initial_sets : Variable → List Event
initial_sets v = if is_some v.initial then sets v.name.name ∷ [] else []

abbrev pub start_transition : PlainProcess → Transition
start_transition p = record { first = flat_map initial_sets (variables_of p); text = p.start.text }

-- the transition of an input follows the receipt of the parameters
abbrev pub input_transition : Input → Transition
input_transition i =
    record { first = map (λ id. sets id.name) (place_names i.stimulus.places); text = i.text }

-- where a process is between transitions: before START, or in a state with this name
abbrev pub Place : Type 0
Place = Option (List ℕ)

-- the inputs of the state with a name
abbrev pub inputs_in : PlainProcess → List ℕ → List Input
inputs_in p s = option_map_or (inputs_of p) (number_of (states_of p) s) []

-- the transition that a step takes from a place
abbrev pub Leads : PlainProcess → Place → Step → Transition → Type 0
Leads p None Start t = t ≡ start_transition p
Leads p None (Takes state signal) t = ⊥
Leads p (Some s) Start t = ⊥
Leads p (Some s) (Takes state signal) t =
    (same_name s state ≡ true)
    × (i : Input) × Contains (inputs_in p s) i × (same_name signal (stimulus_of i).name ≡ true)
    × (t ≡ input_transition i)

-- these events read x, and don't set it before
abbrev pub reads_first : List Event → List ℕ → Bool
reads_first [] x = false
reads_first (reads y ∷ events) x = same_name x y || reads_first events x
reads_first (sets y ∷ events) x = not (same_name x y) && reads_first events x

-- these events set x
abbrev pub sets_in : List Event → List ℕ → Bool
sets_in [] x = false
sets_in (reads y ∷ events) x = sets_in events x
sets_in (sets y ∷ events) x = same_name x y || sets_in events x

-- From a place, with x not set, these steps are a control path. Some walk of each step but the last
-- ends in the state where the next step begins, and doesn't set x. Some walk of the last step reads
-- x, and doesn't set it before.
abbrev pub ReadsFrom : PlainProcess → Place → List Step → List ℕ → Type 0
ReadsFrom p place [] x = ⊥
ReadsFrom p place (step ∷ []) x =
    (t : Transition) × Leads p place step t
    × (events : List Event) × (end : Option (List ℕ)) × IsWalk p t.text events end
    × (reads_first (t.first ++ events) x ≡ true)
ReadsFrom p place (step ∷ next ∷ steps) x =
    (t : Transition) × Leads p place step t
    × (events : List Event) × (s : List ℕ) × IsWalk p t.text events (Some s)
    × (sets_in (t.first ++ events) x ≡ false)
    × ReadsFrom p (Some s) (next ∷ steps) x

-- a control path from START whose last transition reads x before any transition on the path sets it
abbrev pub ReadsUnset : PlainProcess → List Step → List ℕ → Type 0
ReadsUnset p path x = ReadsFrom p None path x

-- no control path that reads a variable unset has fewer transitions
abbrev pub IsShortest : PlainProcess → List Step → Type 0
IsShortest p path =
    (other : List Step) (x : List ℕ) → ReadsUnset p other x → length path ≤ length other

-- each control path of the process that reads a variable unset has more transitions
abbrev pub AreLonger : List Step → PlainProcess → Type 0
AreLonger path p =
    (other : List Step) (x : List ℕ) → ReadsUnset p other x → length path < length other

-- The process is the first of these with such a short path: in each process before it, all those
-- paths have more transitions.
pub record IsFirstWith (ps : List PlainProcess) (p : PlainProcess) (path : List Step) : Type 0 where
  pub before : List PlainProcess
  pub after : List PlainProcess
  pub all : ps ≡ before ++ p ∷ after
  pub longer : All (AreLonger path) before

-- no control path reads a variable before it is set
abbrev pub NeverReadsUnset : PlainProcess → Type 0
NeverReadsUnset p = (path : List Step) (x : List ℕ) → ReadsUnset p path x → ⊥
