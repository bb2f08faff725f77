-- S2: a name that isn't declared in its class and scope. States after NEXTSTATE aren't checked
-- here. (Z.100: visibility, identifiers.)
use Rattle.std.specs.Prelude.{ℕ, List, [], ◌∷◌, ◌++◌, Option, None, Some, if◌then◌else◌}
use Rattle.std.specs.List.{flat_map}
use Rattle.std.specs.Option.{option_to_list}
use Rattle.sdl_tables.specs.sdl_ast_types.expression.Identifier.{Identifier}
use Rattle.sdl_tables.specs.sdl_ast_types.tree.Destination.{Destination}
use Rattle.sdl_tables.specs.sdl_ast_types.tree.Destination.TheVariants.{Sender, Process as To}
use Rattle.sdl_tables.specs.sdl_ast_types.tree.Party.{Party}
use Rattle.sdl_tables.specs.sdl_ast_types.tree.Party.TheVariants.{Environment, Process}
use Rattle.sdl_tables.specs.sdl_ast_types.tree.End.{End}
use Rattle.sdl_tables.specs.sdl_ast_types.tree.End.TheVariants.{NextState, Stop, Join}
use Rattle.sdl_tables.specs.Plain.{Tree, number, truth, variable, unary, binary, PlainAssignment}
use Rattle.sdl_tables.specs.Plain.{PlainSending, PlainAction, task, output, set_timer, reset_timer}
use Rattle.sdl_tables.specs.Plain.{PlainStimulus, PlainInput, PlainState, PlainProcess, PlainPath}
use Rattle.sdl_tables.specs.Plain.{PlainRoute, PlainBlock}
use Rattle.sdl_tables.specs.Names.{is_in, routes_of, processes_of, signal_names, process_names}
use Rattle.sdl_tables.specs.Names.{variable_names, timers_of, connector_names, input_parts}
use Rattle.sdl_tables.specs.Names.{part_saves}
use Rattle.sdl_sound.specs.Statements.{Statement, acts, asks, covers, finishes}
use Rattle.sdl_sound.specs.Actions.{in_statements}

-- the places of the identifiers whose names aren't in the first list
abbrev pub unknown : List Identifier → List Identifier → List ℕ
unknown among ids = flat_map (λ id. if is_in among id.name then [] else id.at ∷ []) ids

abbrev pub party_names : Party → List Identifier
party_names Environment = []
party_names (Process id) = id ∷ []

abbrev pub path_unknown : PlainBlock → PlainPath → List ℕ
path_unknown b path =
    unknown (process_names b) (party_names path.from ++ party_names path.to)
    ++ unknown (signal_names b) path.signals

abbrev pub route_unknown : PlainBlock → PlainRoute → List ℕ
route_unknown b r = flat_map (path_unknown b) r.paths

-- the variables of an expression, in the order of the text
abbrev pub tree_names : Tree → List Identifier
tree_names (number at value) = []
tree_names (truth at value) = []
tree_names (variable at id) = id ∷ []
tree_names (unary at operator operand) = tree_names operand
tree_names (binary at operator left right) = tree_names left ++ tree_names right

abbrev pub assignment_names : PlainAssignment → List Identifier
assignment_names a = a.variable ∷ tree_names a.value

-- the unknown names in a signal sent: its own, and the variables of its parameters
abbrev pub sending_unknown : PlainBlock → PlainProcess → PlainSending → List ℕ
sending_unknown b p s =
    unknown (signal_names b) (s.signal ∷ [])
    ++ unknown (variable_names p) (flat_map tree_names s.parameters)

-- the destination process, if it is named
abbrev pub destination_names : Option Destination → List Identifier
destination_names None = []
destination_names (Some (Sender at)) = []
destination_names (Some (To id)) = id ∷ []

abbrev pub action_unknown : PlainBlock → PlainProcess → PlainAction → List ℕ
action_unknown b p (task at list) = unknown (variable_names p) (flat_map assignment_names list)
action_unknown b p (output at list to) =
    flat_map (sending_unknown b p) list ++ unknown (process_names b) (destination_names to)
action_unknown b p (set_timer at delay timer) =
    unknown (variable_names p) (tree_names delay) ++ unknown (timers_of p) (timer ∷ [])
action_unknown b p (reset_timer at timer) = unknown (timers_of p) (timer ∷ [])

-- the connector of a JOIN
abbrev pub end_connectors : End → List Identifier
end_connectors (NextState n) = []
end_connectors (Stop at) = []
end_connectors (Join j) = j.connector ∷ []

abbrev pub statement_unknown : PlainBlock → PlainProcess → Statement → List ℕ
statement_unknown b p (acts a) = action_unknown b p a
statement_unknown b p (asks at q c) = unknown (variable_names p) (tree_names q)
statement_unknown b p (covers q ranges) = []
statement_unknown b p (finishes e) = unknown (connector_names p) (end_connectors e)

-- the names that an INPUT or a SAVE may use: signals, and timers of the process
abbrev pub trigger_names : PlainBlock → PlainProcess → List Identifier
trigger_names b p = signal_names b ++ timers_of p

-- the variables that receive parameters
abbrev pub place_names : List (Option Identifier) → List Identifier
place_names places = flat_map option_to_list places

abbrev pub stimulus_unknown : PlainBlock → PlainProcess → PlainStimulus → List ℕ
stimulus_unknown b p s =
    unknown (trigger_names b p) (s.name ∷ []) ++ unknown (variable_names p) (place_names s.places)

abbrev pub input_unknown : PlainBlock → PlainProcess → PlainInput → List ℕ
input_unknown b p i = flat_map (stimulus_unknown b p) i.stimuli

-- the unknown names in the SAVEs of a STATE part
abbrev pub saves_unknown : PlainBlock → PlainProcess → PlainState → List ℕ
saves_unknown b p part = unknown (trigger_names b p) (part_saves part)

-- the unknown names in INPUTs, SAVEs and statements
abbrev pub process_unknown : PlainBlock → PlainProcess → List ℕ
process_unknown b p =
    flat_map (input_unknown b p) (input_parts p)
    ++ (flat_map (saves_unknown b p) p.states ++ in_statements (λ from. statement_unknown b p) p)

abbrev pub unknown_names : PlainBlock → List ℕ
unknown_names b =
    flat_map (route_unknown b) (routes_of b) ++ flat_map (process_unknown b) (processes_of b)
