-- Names that must be distinct, and the places of duplicates. (Z.100: entity classes and scope
-- units.)
use Rattle.std.specs.Prelude.{◌≡◌, ℕ, List, [], ◌∷◌, ◌++◌, Option, None, Some, if◌then◌else◌}
use Rattle.std.specs.Prelude.{Contains, ⊤}
use Rattle.std.specs.List.{flat_map}
use Rattle.sdl_ast.specs.declared.expression.Identifier.{Identifier}
use Rattle.sdl_ast.specs.Plain.{PlainProcess, PlainBlock}
use Rattle.sdl_tables.specs.Names.{is_in, processes_of, signal_names, route_names, process_names}
use Rattle.sdl_tables.specs.Names.{variable_names, timers_of, connector_names, triggers_by_state}
use Rattle.sdl_tables.specs.declared.fault.TableFault.{TableFault}
use Rattle.sdl_tables.specs.declared.fault.TableFault.TheVariants.{DoubleName, NoMemory}

-- the place is one of these, or there is no place and the list is empty
abbrev pub Marks : Option ℕ → List ℕ → Type 0
Marks None places = places ≡ []
Marks (Some at) places = Contains places at

-- ---- S1: a duplicate name in a class and scope, a timer with the name of a signal, or a signal or
-- timer that a state consumes or saves twice

-- the places of the identifiers whose name occurs earlier in the list or in `before`
abbrev pub repeats : List Identifier → List Identifier → List ℕ
repeats before [] = []
repeats before (id ∷ ids) =
    (if is_in before id.name then id.at ∷ [] else []) ++ repeats (before ++ id ∷ []) ids

-- the names of a process that must be distinct: a list for each class, and one for each state with
-- the names that it consumes or saves
abbrev pub process_scopes : PlainProcess → List (List Identifier)
process_scopes p = variable_names p ∷ timers_of p ∷ connector_names p ∷ triggers_by_state p

-- the lists of names of a block that must be distinct
abbrev pub scopes : PlainBlock → List (List Identifier)
scopes b = signal_names b ∷ route_names b ∷ process_names b
    ∷ flat_map process_scopes (processes_of b)

-- the places of the identifiers whose names are in the first list
abbrev pub shared : List Identifier → List Identifier → List ℕ
shared among ids = flat_map (λ id. if is_in among id.name then id.at ∷ [] else []) ids

-- the places of timers that have the name of a signal
abbrev pub signal_timers : PlainBlock → List ℕ
signal_timers b = flat_map (λ p. shared (signal_names b) (timers_of p)) (processes_of b)

abbrev pub double_names : PlainBlock → List ℕ
double_names b = flat_map (repeats []) (scopes b) ++ signal_timers b

-- the tables are refused for a duplicate name at one of these places, or memory ran out
abbrev pub IsDouble : TableFault → List ℕ → Type 0
IsDouble (DoubleName at) places = Contains places at
IsDouble NoMemory places = ⊤
