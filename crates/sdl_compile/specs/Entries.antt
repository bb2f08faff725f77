-- The variables that are set as a connection begins: those that are set at every JOIN to it in a
-- piece.
use Rattle.std.specs.Prelude.{◌≡◌, ℕ, Bool, if◌then◌else◌, List, [], ◌∷◌, map, slice_get, slice_set}
use Rattle.std.specs.Option.{option_map_or}
use Rattle.sdl_ast.specs.declared.tree.End.{End}
use Rattle.sdl_ast.specs.declared.tree.End.TheVariants.{NextState, Stop, Join}
use Rattle.sdl_ast.specs.Plain.{Text, falls, ends, does, decides, Choice, nothing_else, otherwise}
use Rattle.sdl_ast.specs.Plain.{answer, PlainConnection}
use Rattle.turn_code.specs.declared.variable_set.VariableSet.{VariableSet}
use Rattle.sdl_sound.specs.Longest.{Piece}
use Rattle.sdl_meaning.specs.Act.{is_truth}
use Rattle.sdl_meaning.specs.Outcomes.{Scope, connector_at}
use Rattle.sdl_meaning.specs.Code.{number_or_zero}
use Rattle.sdl_compile.specs.Reads.{everything, meet, action_set, choice_left, places_set}

-- The set of a connection, by its number.
abbrev pub entry_at : List VariableSet → ℕ → VariableSet
entry_at es n = option_map_or (λ (e : VariableSet). e) (slice_get es n) everything

-- Each set has only variables that are possible.
abbrev pub AreOfAll : List VariableSet → Type 0
AreOfAll es = (k : ℕ) → meet (entry_at es k) everything ≡ entry_at es k

-- One more JOIN to a connection, at which these variables are set.
abbrev pub met_at : List VariableSet → ℕ → VariableSet → List VariableSet
met_at es n m = slice_set es n (meet (entry_at es n) m)

abbrev pub end_met : Scope → VariableSet → End → List VariableSet → List VariableSet
end_met c m (NextState n) es = es
end_met c m (Stop at) es = es
end_met c m (Join j) es = met_at es (number_or_zero (connector_at c j.connector)) m

abbrev mutual
  -- The JOINs of a text that begins with these variables set, in the order of its code.
  pub met : Scope → VariableSet → Text → List VariableSet → List VariableSet
  met c m falls es = es
  met c m (ends e) es = end_met c m e es
  met c m (does a rest) es = met c (action_set c m a) rest es
  met c m (decides at q choice rest) es =
      met c (choice_left c m choice) rest
      (if is_truth c q then else_met c m choice (answers_met c m choice es)
      else answers_met c m choice (else_met c m choice es))

  pub answers_met : Scope → VariableSet → Choice → List VariableSet → List VariableSet
  answers_met c m nothing_else es = es
  answers_met c m (otherwise body) es = es
  answers_met c m (answer at ranges body others) es = answers_met c m others (met c m body es)

  pub else_met : Scope → VariableSet → Choice → List VariableSet → List VariableSet
  else_met c m nothing_else es = es
  else_met c m (otherwise body) es = met c m body es
  else_met c m (answer at ranges body others) es = else_met c m others es

-- The JOINs of the bodies of a DECISION.
abbrev pub choice_met : Scope → Bool → VariableSet → Choice → List VariableSet → List VariableSet
choice_met c b m choice es =
    if b then else_met c m choice (answers_met c m choice es)
    else answers_met c m choice (else_met c m choice es)

-- The JOINs of the connection with this number.
abbrev pub connection_met : Scope → ℕ → List VariableSet → List VariableSet
connection_met c n es =
    option_map_or (λ (x : PlainConnection). met c (entry_at es n) x.text es)
    (slice_get c.process.connections n) es

-- These connections one after another, the last one first: each is joined only from those after it.
abbrev pub connections_met : Scope → List ℕ → List VariableSet → List VariableSet
connections_met c [] es = es
connections_met c (n ∷ ns) es = connection_met c n (connections_met c ns es)

-- The sets of all connections, if a transition begins with these variables set and each connection
-- comes after those that it joins in this order. A connection to which the transition doesn't lead
-- has every variable.
abbrev pub piece_entries : Scope → VariableSet → Piece → List ℕ → List VariableSet
piece_entries c m q order =
    connections_met c order
    (met c (places_set c m q.places) q.text
    (map (λ (x : PlainConnection). everything) c.process.connections))
