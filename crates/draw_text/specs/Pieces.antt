-- The parts of a process: START, the STATE parts and the CONNECTIONs.
use Rattle.std.specs.Prelude.{ℕ, List, [], ◌∷◌, ◌++◌, codes}
use Rattle.std.specs.List.{flat_map}
use Rattle.sdl_tables.specs.Names.{states_of}
use Rattle.sdl_ast.specs.Plain.{PlainBlock, PlainProcess, PlainInput, PlainClause, input, save}
use Rattle.sdl_ast.specs.Plain.{PlainState, PlainStart, PlainConnection}
use Rattle.sdl_ast.specs.declared.expression.Identifier.{Identifier}
use Rattle.draw_text.specs.Written.{names_text}
use Rattle.draw_text.specs.Statements.{stimuli_text, triggers_text}
use Rattle.draw_text.specs.Parts.{PlainPart, mark, symbol, text_parts}
use Rattle.draw_text.specs.declared.parts.Kind.TheVariants as kinds

-- the place of the first of these names; 0 if there are none
abbrev pub first_place : List Identifier → ℕ
first_place [] = 0
first_place (id ∷ ids) = id.at

abbrev pub input_parts : PlainBlock → PlainProcess → PlainInput → List PlainPart
input_parts b p i =
    mark kinds.Branch
    ∷ record { kind = kinds.Input; at = i.at; text = stimuli_text b p i.stimuli }
    ∷ text_parts b p i.text

abbrev pub save_parts : PlainBlock → PlainProcess → List Identifier → List PlainPart
save_parts b p ids =
    mark kinds.Branch
    ∷ record { kind = kinds.Save; at = first_place ids; text = triggers_text b p ids } ∷ []

abbrev pub clause_parts : PlainBlock → PlainProcess → PlainClause → List PlainPart
clause_parts b p (input i) = input_parts b p i
clause_parts b p (save ids) = save_parts b p ids

abbrev pub state_head : PlainProcess → List Identifier → List PlainPart
state_head p ids =
    symbol kinds.State (first_place ids) (names_text (states_of p) (codes ",\n") ids)
    ∷ mark kinds.Fork ∷ []

-- the names of a STATE part, and a branch for each INPUT and SAVE
abbrev pub state_parts : PlainBlock → PlainProcess → PlainState → List PlainPart
state_parts b p s =
    state_head p s.names ++ flat_map (clause_parts b p) s.clauses ++ mark kinds.Meet ∷ []

abbrev pub start_parts : PlainBlock → PlainProcess → PlainStart → List PlainPart
start_parts b p s =
    record { kind = kinds.Start; at = s.at; text = [] } ∷ text_parts b p s.text

abbrev pub connection_parts : PlainBlock → PlainProcess → PlainConnection → List PlainPart
connection_parts b p c =
    record { kind = kinds.Connector; at = c.at; text = c.name.name } ∷ text_parts b p c.text

-- all parts of a process: START, STATE parts, CONNECTIONs, each group in the order of the text
abbrev pub process_parts : PlainBlock → PlainProcess → List PlainPart
process_parts b p =
    start_parts b p p.start ++ flat_map (state_parts b p) p.states
    ++ flat_map (connection_parts b p) p.connections
