-- S4: a NEXTSTATE to a state without STATE, a list of actions that runs off its end, or a statement
-- after a DECISION that no body continues past. (Z.100: nextstate, terminators.)
use Rattle.std.specs.Prelude.{ℕ, List, [], ◌∷◌, ◌++◌, if◌then◌else◌}
use Rattle.std.specs.List.{flat_map}
use Rattle.sdl_tables.specs.sdl_ast_types.expression.Identifier.{Identifier}
use Rattle.sdl_tables.specs.sdl_ast_types.tree.End.{End}
use Rattle.sdl_tables.specs.sdl_ast_types.tree.End.TheVariants.{NextState, Stop, Join}
use Rattle.sdl_tables.specs.Plain.{PlainAction, task, output, set_timer, reset_timer, Text, falls}
use Rattle.sdl_tables.specs.Plain.{ends, does, decides, Choice, nothing_else, otherwise, answer}
use Rattle.sdl_tables.specs.Plain.{PlainConnection, PlainInput, PlainProcess, PlainBlock}
use Rattle.sdl_tables.specs.Names.{is_in, processes_of, states_of, input_parts}
use Rattle.sdl_sound.specs.Going.{choice_goes_on}

abbrev pub action_place : PlainAction → ℕ
action_place (task at assignments) = at
action_place (output at sendings to) = at
action_place (set_timer at delay timer) = at
action_place (reset_timer at timer) = at

abbrev pub end_place : End → ℕ
end_place (NextState n) = n.at
end_place (Stop at) = at
end_place (Join j) = j.at

-- the place of the first statement of a text; none if the text is empty
abbrev pub first_place : Text → List ℕ
first_place falls = []
first_place (ends e) = end_place e ∷ []
first_place (does a rest) = action_place a ∷ []
first_place (decides at q c rest) = at ∷ []

abbrev pub stray_end : List Identifier → End → List ℕ
stray_end states (NextState n) = if is_in states n.state.name then [] else n.at ∷ []
stray_end states (Stop at) = []
stray_end states (Join j) = []

abbrev mutual
  -- The places of bad ends in a text; `off` are those for running off its end. If no body of a
  -- DECISION continues past it, the statement after it is reported instead.
  pub strays : List Identifier → List ℕ → Text → List ℕ
  strays states off falls = off
  strays states off (ends e) = stray_end states e
  strays states off (does a rest) = strays states off rest
  strays states off (decides at q c rest) =
      choice_strays states c
      ++ (if choice_goes_on c then strays states off rest
      else first_place rest ++ strays states [] rest)

  -- a body that runs off its end continues after its DECISION, so that is no fault
  pub choice_strays : List Identifier → Choice → List ℕ
  choice_strays states nothing_else = []
  choice_strays states (otherwise body) = strays states [] body
  choice_strays states (answer at ranges body others) =
      strays states [] body ++ choice_strays states others

-- a list that runs off its end is reported at its START, INPUT or CONNECTION
abbrev pub input_strays : PlainProcess → PlainInput → List ℕ
input_strays p i = strays (states_of p) (i.at ∷ []) i.text

abbrev pub connection_strays : PlainProcess → PlainConnection → List ℕ
connection_strays p c = strays (states_of p) (c.at ∷ []) c.text

abbrev pub process_strays : PlainProcess → List ℕ
process_strays p =
    strays (states_of p) (p.start.at ∷ []) p.start.text
    ++ (flat_map (input_strays p) (input_parts p) ++ flat_map (connection_strays p) p.connections)

abbrev pub stray_ends : PlainBlock → List ℕ
stray_ends b = flat_map process_strays (processes_of b)
