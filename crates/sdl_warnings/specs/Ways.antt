-- Where transitions lead: the states in which they may end, and the ways from state to state. A
-- DECISION may take any of its answers. (Z.100: the transitions of a process graph.)
use Rattle.std.specs.Prelude.{ℕ, zero, suc, Bool, ◌&&◌, List, [], ◌∷◌, ◌++◌, length, map, filter}
use Rattle.std.specs.List.{list_any, flat_map}
use Rattle.sdl_ast.specs.declared.expression.Identifier.{Identifier}
use Rattle.sdl_ast.specs.declared.tree.End.{End}
use Rattle.sdl_ast.specs.declared.tree.End.TheVariants.{NextState, Stop, Join}
use Rattle.sdl_ast.specs.Plain.{Text, PlainProcess}
use Rattle.sdl_tables.specs.Names.{states_of, is_state, inputs_of}
use Rattle.sdl_sound.specs.Statements.{Statement, acts, asks, covers, finishes, statements_of}
use Rattle.sdl_sound.specs.Joins.{reached}
use Rattle.sdl_measures.specs.Links.{goes}

-- the state that a NEXTSTATE names
abbrev pub end_states : End → List Identifier
end_states (NextState n) = n.state ∷ []
end_states (Stop at) = []
end_states (Join j) = []

abbrev pub statement_states : Statement → List Identifier
statement_states (acts a) = []
statement_states (asks at q c) = []
statement_states (covers q ranges) = []
statement_states (finishes e) = end_states e

-- the states that the NEXTSTATEs of a text name
abbrev pub text_states : Text → List Identifier
text_states t = flat_map statement_states (statements_of t)

-- those of a transition, and of the connections to which it comes, through others too
abbrev pub exits : PlainProcess → Text → List Identifier
exits p t = text_states t ++ flat_map (λ c. text_states c.text) (reached p t)

-- whether a transition may end in the state with this number
abbrev pub enters : PlainProcess → Text → ℕ → Bool
enters p t n = list_any (λ id. is_state (states_of p) n id.name) (exits p t)

-- whether some input of state s leads to state n
abbrev pub leads : PlainProcess → ℕ → ℕ → Bool
leads p s n = list_any (λ i. enters p i.text n) (inputs_of p s)

-- the numbers below this one
abbrev pub upto : ℕ → List ℕ
upto zero = []
upto (suc n) = upto n ++ n ∷ []

-- the numbers of the states
abbrev pub state_numbers : PlainProcess → List ℕ
state_numbers p = upto (length (states_of p))

-- for each state, the states to which its inputs lead
abbrev pub state_links : PlainProcess → List (List ℕ)
state_links p = map (λ s. filter (leads p s) (state_numbers p)) (state_numbers p)

-- whether a way of any number of transitions, none too, leads from state s to state n
abbrev pub is_way : PlainProcess → ℕ → ℕ → Bool
is_way p s n = goes (state_links p) s n

-- whether a way from START leads to state n
abbrev pub is_entered : PlainProcess → ℕ → Bool
is_entered p n = list_any (λ s. enters p p.start.text s && is_way p s n) (state_numbers p)
