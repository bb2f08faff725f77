-- The connections that JOINs lead to, and JOINs that lead back to their own connection. (Z.100:
-- joins, in-connectors.)
use Rattle.std.specs.Prelude.{ℕ, zero, suc, Bool, ◌||◌, List, [], ◌∷◌, if◌then◌else◌, length}
use Rattle.std.specs.Prelude.{filter}
use Rattle.std.specs.List.{list_any, flat_map}
use Rattle.std.specs.Option.{option_map_or}
use Rattle.sdl_tables.specs.sdl_ast_types.tree.Join.{Join}
use Rattle.sdl_tables.specs.Plain.{Text, PlainConnection, PlainProcess, PlainBlock}
use Rattle.sdl_tables.specs.Names.{same_name, connection_named, processes_of}
use Rattle.sdl_sound.specs.Statements.{joins_of}

-- the JOINs of the connection with a name
abbrev pub joins_at : PlainProcess → List ℕ → List Join
joins_at p y = option_map_or (λ c. joins_of c.text) (connection_named p y) []

-- a JOIN to connector y leads to connector x, by at most n more JOINs
abbrev pub comes_by : PlainProcess → ℕ → List ℕ → List ℕ → Bool
comes_by p zero y x = same_name x y
comes_by p (suc n) y x =
    same_name x y || list_any (λ j. comes_by p n j.connector.name x) (joins_at p y)

-- A JOIN to connector y leads to connector x. The shortest way meets no connection twice, so it has
-- no more JOINs than there are connections.
abbrev pub comes : PlainProcess → List ℕ → List ℕ → Bool
comes p y x = comes_by p (length p.connections) y x

-- the JOINs of a text lead to connector x
abbrev pub reaches : PlainProcess → Text → List ℕ → Bool
reaches p t x = list_any (λ j. comes p j.connector.name x) (joins_of t)

-- the connections to which the JOINs of a text lead, without duplicates
abbrev pub reached : PlainProcess → Text → List PlainConnection
reached p t = filter (λ c. reaches p t c.name.name) p.connections

-- ---- S7: a JOIN that leads back to its own connection

abbrev pub comes_back : PlainProcess → PlainConnection → Join → List ℕ
comes_back p c j = if comes p j.connector.name c.name.name then j.at ∷ [] else []

abbrev pub connection_cycles : PlainProcess → PlainConnection → List ℕ
connection_cycles p c = flat_map (comes_back p c) (joins_of c.text)

abbrev pub process_cycles : PlainProcess → List ℕ
process_cycles p = flat_map (connection_cycles p) p.connections

abbrev pub join_cycles : PlainBlock → List ℕ
join_cycles b = flat_map process_cycles (processes_of b)
