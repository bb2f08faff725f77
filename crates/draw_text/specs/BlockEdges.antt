-- The signals that routes carry from one party to another, and the diagram lines that show them.
use Rattle.std.specs.Prelude.{ℕ, Bool, true, false, ◌&&◌, List, [], ◌∷◌, ◌++◌, map, codes, Option}
use Rattle.std.specs.Prelude.{None, Some, if◌then◌else◌}
use Rattle.std.specs.List.{flat_map}
use Rattle.sdl_tables.specs.Names.{names_once, signal_names, signal_named, process_names}
use Rattle.sdl_tables.specs.Names.{processes_of, routes_of}
use Rattle.sdl_tables.specs.Routes.{same_party}
use Rattle.sdl_ast.specs.Plain.{PlainPath, PlainRoute, PlainBlock, PlainSignal}
use Rattle.sdl_ast.specs.declared.expression.Identifier.{Identifier}
use Rattle.sdl_ast.specs.declared.tree.Party.{Party}
use Rattle.sdl_ast.specs.declared.tree.Party.TheVariants.{Environment, Process}
use Rattle.draw_text.specs.Written.{spelled}
use Rattle.draw_text.specs.Statements.{sort_text, arguments_text, party_text}

-- the environment, and the processes in the order of the text
abbrev pub parties_of : PlainBlock → List Party
parties_of b = Environment ∷ map (λ p. Process p.name) (processes_of b)

-- the signals of a path, if it leads from the first party to the second
abbrev pub path_signals : Party → Party → PlainPath → List Identifier
path_signals from to path =
    if same_party from path.from && same_party to path.to then path.signals else []

-- the signals that the paths of a route carry from the first party to the second
abbrev pub route_signals : Party → Party → PlainRoute → List Identifier
route_signals from to route = flat_map (path_signals from to) route.paths

-- the signals that routes carry from one party to another, each once, in the order of the text
abbrev pub signals_between : PlainBlock → Party → Party → List Identifier
signals_between b from to = names_once (flat_map (route_signals from to) (routes_of b))

-- ---- signals

abbrev pub declared_sorts : Option PlainSignal → List ℕ
declared_sorts None = []
declared_sorts (Some s) = arguments_text sort_text s.parameters

abbrev pub sorts_text : PlainBlock → List ℕ → List ℕ
sorts_text b name = declared_sorts (signal_named b name)

-- a signal with the sorts of its parameters, and the end of its line
abbrev pub signal_text : PlainBlock → List ℕ → List ℕ
signal_text b name = spelled (signal_names b) name ++ sorts_text b name ++ codes "\\l"

abbrev pub signal_lines : PlainBlock → List Identifier → List ℕ
signal_lines b ids = flat_map (λ id. signal_text b id.name) ids

abbrev pub label_text : PlainBlock → List Identifier → List ℕ
label_text b ids = codes "label=\"" ++ signal_lines b ids ++ codes "\"];\n"

-- ---- edges

-- the node where an edge starts: the process, or the environment's list of what it sends there
abbrev pub source_text : PlainBlock → Party → Party → List ℕ
source_text b Environment to = codes "i_" ++ party_text b to
source_text b (Process id) to = codes "p_" ++ party_text b (Process id)

-- the node where an edge ends
abbrev pub target_text : PlainBlock → Party → Party → List ℕ
target_text b from Environment = codes "e_" ++ party_text b from
target_text b from (Process id) = codes "p_" ++ party_text b (Process id)

abbrev pub ends_text : PlainBlock → Party → Party → List ℕ
ends_text b from to = source_text b from to ++ codes " -> " ++ target_text b from to

-- the node of the environment's list: ranked above all processes, or below them
abbrev pub outer_text : PlainBlock → Party → Party → List ℕ
outer_text b Environment to = codes "{rank=source; " ++ source_text b Environment to
outer_text b (Process id) to = codes "{rank=sink; " ++ target_text b (Process id) to

abbrev pub is_outer : Party → Party → Bool
is_outer Environment to = true
is_outer (Process id) Environment = true
is_outer (Process id) (Process other) = false

-- an edge with its signals; signals from or to the environment are listed in their own node
abbrev pub joined_text : PlainBlock → Party → Party → List Identifier → List ℕ
joined_text b from to ids =
    codes "  " ++ (if is_outer from to
    then outer_text b from to ++ codes " [shape=plain, style=\"\", fontsize=9, "
    ++ label_text b ids ++ codes "  }\n  " ++ ends_text b from to ++ codes ";\n"
    else ends_text b from to ++ codes " [" ++ label_text b ids)

-- an edge with its signals; nothing if there are none
abbrev pub joined_if_any : PlainBlock → Party → Party → List Identifier → List ℕ
joined_if_any b from to [] = []
joined_if_any b from to (id ∷ ids) = joined_text b from to (id ∷ ids)

-- the edge from one party to another; nothing if no route carries a signal between them
abbrev pub edge_text : PlainBlock → Party → Party → List ℕ
edge_text b from to = joined_if_any b from to (signals_between b from to)

-- the node of a process
abbrev pub node_text : PlainBlock → List ℕ → List ℕ
node_text b name =
    codes "  p_" ++ spelled (process_names b) name ++ codes " [label=<<b>"
    ++ spelled (process_names b) name ++ codes "</b>>];\n"
