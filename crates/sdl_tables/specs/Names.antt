-- The tables of a block: signals, routes and processes. Each process has variables, timers,
-- connectors and states, and each state its inputs and saves. All are in text order. Names that
-- differ only in case are one. (Z.100: entity classes and scope units.)
use Rattle.std.specs.Prelude.{ℕ, Bool, false, ◌==◌, List, [], ◌∷◌, ◌++◌, Option, if◌then◌else◌, map}
use Rattle.std.specs.Prelude.{fold, find, position, bytes_eq}
use Rattle.std.specs.List.{list_any, flat_map, enumerate_from}
use Rattle.std.specs.Option.{option_map_or}
use Rattle.sdl_ast.specs.Spelling.{folded}
use Rattle.sdl_ast.specs.declared.expression.Identifier.{Identifier}
use Rattle.sdl_ast.specs.declared.tree.Sort.{Sort}
use Rattle.sdl_ast.specs.declared.tree.Constant.{Constant}
use Rattle.sdl_ast.specs.Plain.{Text, PlainConnection, PlainStimulus, PlainInput, PlainClause}
use Rattle.sdl_ast.specs.Plain.{input, save, PlainState, PlainGroup, PlainDeclaration, variables}
use Rattle.sdl_ast.specs.Plain.{timers, own_synonyms, PlainProcess, PlainRoute, PlainSignal}
use Rattle.sdl_ast.specs.Plain.{PlainEntity, signals, route, connect, synonyms, process, PlainBlock}

-- two spellings of one name
abbrev pub same_name : List ℕ → List ℕ → Bool
same_name x y = bytes_eq (folded x) (folded y)

-- one of these identifiers has the name
abbrev pub is_in : List Identifier → List ℕ → Bool
is_in ids x = list_any (λ id. same_name x id.name) ids

-- the number of a name, from 0: the index of the first identifier that has it
abbrev pub number_of : List Identifier → List ℕ → Option ℕ
number_of ids x = position (λ id. same_name x id.name) ids

-- ---- the block

abbrev pub signals_in : PlainEntity → List PlainSignal
signals_in (signals declared) = declared
signals_in (route r) = []
signals_in (connect channels routes) = []
signals_in (synonyms list) = []
signals_in (process p) = []

abbrev pub routes_in : PlainEntity → List PlainRoute
routes_in (signals declared) = []
routes_in (route r) = r ∷ []
routes_in (connect channels routes) = []
routes_in (synonyms list) = []
routes_in (process p) = []

abbrev pub processes_in : PlainEntity → List PlainProcess
processes_in (signals declared) = []
processes_in (route r) = []
processes_in (connect channels routes) = []
processes_in (synonyms list) = []
processes_in (process p) = p ∷ []

-- the signals of all SIGNALs
abbrev pub signals_of : PlainBlock → List PlainSignal
signals_of b = flat_map signals_in b.entities

abbrev pub routes_of : PlainBlock → List PlainRoute
routes_of b = flat_map routes_in b.entities

abbrev pub processes_of : PlainBlock → List PlainProcess
processes_of b = flat_map processes_in b.entities

abbrev pub signal_names : PlainBlock → List Identifier
signal_names b = map (λ s. s.name) (signals_of b)

abbrev pub route_names : PlainBlock → List Identifier
route_names b = map (λ r. r.name) (routes_of b)

abbrev pub process_names : PlainBlock → List Identifier
process_names b = map (λ p. p.name) (processes_of b)

-- the signal with a name
abbrev pub signal_named : PlainBlock → List ℕ → Option PlainSignal
signal_named b x = find (λ s. same_name x s.name.name) (signals_of b)

-- ---- variables

-- a variable with its sort, and the initial value that its group has
pub record Variable : Type 0 where
  pub name : Identifier
  pub sort : Sort
  pub initial : Option Constant

-- each name of a group has the group's sort and initial value
abbrev pub group_variables : PlainGroup → List Variable
group_variables g = map (λ id. record { name = id; sort = g.sort; initial = g.initial }) g.names

abbrev pub declared_variables : PlainDeclaration → List Variable
declared_variables (variables groups) = flat_map group_variables groups
declared_variables (timers names) = []
declared_variables (own_synonyms list) = []

abbrev pub variables_of : PlainProcess → List Variable
variables_of p = flat_map declared_variables p.declarations

abbrev pub variable_names : PlainProcess → List Identifier
variable_names p = map (λ v. v.name) (variables_of p)

-- ---- timers

abbrev pub timers_in : PlainDeclaration → List Identifier
timers_in (variables groups) = []
timers_in (timers names) = names
timers_in (own_synonyms list) = []

-- the timers of all TIMERs of a process
abbrev pub timers_of : PlainProcess → List Identifier
timers_of p = flat_map timers_in p.declarations

-- ---- connections

-- the connectors of a process: the names of its CONNECTIONs
abbrev pub connector_names : PlainProcess → List Identifier
connector_names p = map (λ c. c.name) p.connections

-- the connection with a name
abbrev pub connection_named : PlainProcess → List ℕ → Option PlainConnection
connection_named p x = find (λ c. same_name x c.name.name) p.connections

-- ---- states

-- appends a name, unless it is in the list
abbrev pub add_name : List Identifier → Identifier → List Identifier
add_name ids id = if is_in ids id.name then ids else ids ++ id ∷ []

-- the names without duplicates, in the spelling and order of their first occurrence
abbrev pub names_once : List Identifier → List Identifier
names_once ids = fold add_name [] ids

-- the names in STATE parts, with duplicates
abbrev pub named_states : PlainProcess → List Identifier
named_states p = flat_map (λ part. part.names) p.states

-- the states: parts with one name are one state, spelled and numbered by the first
abbrev pub states_of : PlainProcess → List Identifier
states_of p = names_once (named_states p)

-- the INPUTs of a process, each once, in the order of the text
abbrev pub clause_parts : PlainClause → List PlainInput
clause_parts (input i) = i ∷ []
clause_parts (save names) = []

abbrev pub input_parts : PlainProcess → List PlainInput
input_parts p = flat_map (λ part. flat_map clause_parts part.clauses) p.states

-- an input of a state: a signal with its places, the place of the word INPUT, and the transition
pub record Input : Type 0 where
  pub at : ℕ
  pub stimulus : PlainStimulus
  pub text : Text

-- the signal or timer that it takes
abbrev pub stimulus_of : Input → Identifier
stimulus_of i = i.stimulus.name

abbrev pub clause_inputs : PlainClause → List Input
clause_inputs (input i) = map (λ s. record { at = i.at; stimulus = s; text = i.text }) i.stimuli
clause_inputs (save names) = []

abbrev pub part_inputs : PlainState → List Input
part_inputs part = flat_map clause_inputs part.clauses

-- the signals and timers of SAVEs
abbrev pub clause_saves : PlainClause → List Identifier
clause_saves (input i) = []
clause_saves (save names) = names

abbrev pub part_saves : PlainState → List Identifier
part_saves part = flat_map clause_saves part.clauses

-- the signals and timers of INPUTs and SAVEs
abbrev pub clause_triggers : PlainClause → List Identifier
clause_triggers (input i) = map (λ s. s.name) i.stimuli
clause_triggers (save names) = names

abbrev pub part_triggers : PlainState → List Identifier
part_triggers part = flat_map clause_triggers part.clauses

-- the name is that of state s
abbrev pub is_state : List Identifier → ℕ → List ℕ → Bool
is_state states s x = option_map_or (λ n. n == s) (number_of states x) false

-- the items that a part adds to state s: its items, once for each time that it names the state
abbrev pub given_to :
    {X : Type 0} → (PlainState → List X) → List Identifier → ℕ → PlainState → List X
given_to in_part states s part =
    flat_map (λ id. if is_state states s id.name then in_part part else []) part.names

-- the items of state s, over all STATE parts
abbrev pub of_state : {X : Type 0} → (PlainState → List X) → PlainProcess → ℕ → List X
of_state in_part p s = flat_map (given_to in_part (states_of p) s) p.states

-- the items of each state, by number
abbrev pub by_state : {X : Type 0} → (PlainState → List X) → PlainProcess → List (List X)
by_state in_part p = map (λ s. of_state in_part p s.0) (enumerate_from 0 (states_of p))

-- the inputs of state s
abbrev pub inputs_of : PlainProcess → ℕ → List Input
inputs_of p s = of_state part_inputs p s

abbrev pub inputs_by_state : PlainProcess → List (List Input)
inputs_by_state p = by_state part_inputs p

-- the names that state s saves
abbrev pub saves_of : PlainProcess → ℕ → List Identifier
saves_of p s = of_state part_saves p s

abbrev pub saves_by_state : PlainProcess → List (List Identifier)
saves_by_state p = by_state part_saves p

-- the names that each state consumes or saves
abbrev pub triggers_by_state : PlainProcess → List (List Identifier)
triggers_by_state p = by_state part_triggers p
