-- Applies a check to each statement of a process, given what begins the transitions that reach it.
use Rattle.std.specs.Prelude.{ℕ, List, [], ◌∷◌, ◌++◌, if◌then◌else◌, map}
use Rattle.std.specs.List.{flat_map}
use Rattle.sdl_tables.specs.Plain.{PlainStimulus, PlainInput, PlainConnection, PlainProcess}
use Rattle.sdl_tables.specs.Names.{input_parts}
use Rattle.sdl_sound.specs.Statements.{Statement, statements_of}
use Rattle.sdl_sound.specs.Joins.{reaches}

-- what begins a transition: START, or a signal or timer
pub data Origin : Type 0 where
  begins : Origin
  takes : PlainStimulus → Origin

-- the transition of an INPUT begins with each of its signals and timers
abbrev pub input_origins : PlainInput → List Origin
input_origins i = map takes i.stimuli

-- the origin of START's transition, if it reaches connector x
abbrev pub start_origins : PlainProcess → List ℕ → List Origin
start_origins p x = if reaches p p.start.text x then begins ∷ [] else []

abbrev pub joining_origins : PlainProcess → List ℕ → PlainInput → List Origin
joining_origins p x i = if reaches p i.text x then input_origins i else []

-- the origins of all transitions that reach a connection, directly or through others; empty if none
-- does
abbrev pub connection_origins : PlainProcess → PlainConnection → List Origin
connection_origins p c =
    start_origins p c.name.name ++ flat_map (joining_origins p c.name.name) (input_parts p)

-- the places that a check returns for the statements of an INPUT's transition, given its origins
abbrev pub in_input : (List Origin → Statement → List ℕ) → PlainInput → List ℕ
in_input ask i = flat_map (ask (input_origins i)) (statements_of i.text)

-- the places that a check returns for a connection, given the origins of all that reach it
abbrev pub in_connection :
    (List Origin → Statement → List ℕ) → PlainProcess → PlainConnection → List ℕ
in_connection ask p c = flat_map (ask (connection_origins p c)) (statements_of c.text)

-- the places that a check returns for all transitions and connections of a process
abbrev pub in_statements : (List Origin → Statement → List ℕ) → PlainProcess → List ℕ
in_statements ask p =
    flat_map (ask (begins ∷ [])) (statements_of p.start.text)
    ++ (flat_map (in_input ask) (input_parts p) ++ flat_map (in_connection ask p) p.connections)
