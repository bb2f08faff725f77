-- The path of a turn through a text: the parts that it takes, in order, and how it goes on. It
-- depends only on the values of variables, not on signals sent or timers set.
use Rattle.std.specs.Prelude.{ℕ, zero, suc, ◌+◌, Bool, false, List, [], ◌∷◌, ◌++◌, Option, None}
use Rattle.std.specs.Prelude.{Some, if◌then◌else◌, slice_get, slice_set, unwrap_or, option_and_then}
use Rattle.std.specs.List.{list_any}
use Rattle.sdl_ast.specs.declared.expression.Identifier.{Identifier}
use Rattle.sdl_ast.specs.declared.tree.End.{End}
use Rattle.sdl_ast.specs.declared.tree.End.TheVariants.{NextState, Stop, Join}
use Rattle.sdl_ast.specs.declared.tree.Range.{Range}
use Rattle.sdl_ast.specs.Plain.{PlainAssignment, PlainAction, task, output, set_timer, reset_timer}
use Rattle.sdl_ast.specs.Plain.{Text, falls, ends, does, decides, Choice, nothing_else, otherwise}
use Rattle.sdl_ast.specs.Plain.{answer, PlainConnection, PlainProcess}
use Rattle.sdl_tables.specs.Names.{number_of, variable_names, connector_names}
use Rattle.sdl_meaning.specs.Act.{covers_integer, covers_truth}
use Rattle.sdl_meaning.specs.Valued.{valued}
use Rattle.turn_code.specs.declared.value.Value.{Value}
use Rattle.turn_code.specs.declared.value.Value.TheVariants.{Int, Bool as Truth}

-- ---- the values of variables

abbrev pub put_at : Option ℕ → Option Value → List (Option Value) → List (Option Value)
put_at None x vs = vs
put_at (Some n) x vs = slice_set vs n x

abbrev pub put :
    List Identifier → Identifier → Option Value → List (Option Value) → List (Option Value)
put ids v x vs = put_at (number_of ids v.name) x vs

-- the variables after a list of assignments
abbrev pub assigned :
    List Identifier → List PlainAssignment → List (Option Value) → List (Option Value)
assigned ids [] vs = vs
assigned ids (a ∷ rest) vs = assigned ids rest (put ids a.variable (valued ids a.value vs) vs)

abbrev pub behind_action :
    List Identifier → PlainAction → List (Option Value) → List (Option Value)
behind_action ids (task k ts) vs = assigned ids ts vs
behind_action ids (output k xs to) vs = vs
behind_action ids (set_timer k t n) vs = vs
behind_action ids (reset_timer k n) vs = vs

-- each named place of an INPUT, from place j on, gets its parameter
abbrev pub taken_in :
    List Identifier → List Value → ℕ → List (Option Identifier) → List (Option Value)
    → List (Option Value)
taken_in ids ps j [] vs = vs
taken_in ids ps j (None ∷ places) vs = taken_in ids ps (j + 1) places vs
taken_in ids ps j (Some v ∷ places) vs =
    taken_in ids ps (j + 1) places (put ids v (slice_get ps j) vs)

-- ---- paths

-- A part that is taken: the one that begins at a place, or the ELSE of the DECISION at a place.
pub data Taken : Type 0 where
  at : ℕ → Taken
  else_of : ℕ → Taken

abbrev pub action_place : PlainAction → ℕ
action_place (task k ts) = k
action_place (output k xs to) = k
action_place (set_timer k t n) = k
action_place (reset_timer k n) = k

abbrev pub end_place : End → ℕ
end_place (NextState n) = n.at
end_place (Stop k) = k
end_place (Join j) = j.at

-- A path: the parts taken on it, the end that it reaches, if any, and the variables then.
pub record Way : Type 0 where
  pub taken : List Taken
  pub end : Option End
  pub values : List (Option Value)

-- a path that takes nothing
abbrev pub stands : Option End → List (Option Value) → Way
stands e vs = record { taken = []; end = e; values = vs }

-- a path that takes these parts first
abbrev pub behind : List Taken → Way → Way
behind xs w = record { taken = xs ++ w.taken; end = w.end; values = w.values }

abbrev pub goes_with :
    Option End → List Taken → List (Option Value) → (List (Option Value) → Way) → Way
goes_with None xs vs f = behind xs (f vs)
goes_with (Some e) xs vs f = record { taken = xs; end = Some e; values = vs }

-- a path, followed by another unless it comes to an end
abbrev pub then_way : Way → (List (Option Value) → Way) → Way
then_way w f = goes_with w.end w.taken w.values f

-- whether an answer applies to a value
abbrev pub has_value : Value → Range → Bool
has_value (Int x) r = unwrap_or (covers_integer r x) false
has_value (Truth b) r = unwrap_or (covers_truth r b) false

abbrev pub is_for : List Range → Value → Bool
is_for rs x = list_any (has_value x) rs

abbrev pub with_value : Option Value → List (Option Value) → (Value → Way) → Way
with_value None vs f = stands None vs
with_value (Some x) vs f = f x

abbrev mutual
  -- the path through a text, if the variables of these names have these values
  pub way_of : List Identifier → Text → List (Option Value) → Way
  way_of ids falls vs = stands None vs
  way_of ids (ends e) vs = behind (at (end_place e) ∷ []) (stands (Some e) vs)
  way_of ids (does a rest) vs =
      behind (at (action_place a) ∷ []) (way_of ids rest (behind_action ids a vs))
  way_of ids (decides k q choice rest) vs =
      then_way
      (behind (at k ∷ [])
      (with_value (valued ids q vs) vs (λ x. chosen_way ids k choice x vs)))
      (λ ws. way_of ids rest ws)

  -- the path by the first answer of the DECISION at place k that applies to the value, or its ELSE
  pub chosen_way : List Identifier → ℕ → Choice → Value → List (Option Value) → Way
  chosen_way ids k nothing_else x vs = stands None vs
  chosen_way ids k (otherwise body) x vs = behind (else_of k ∷ []) (way_of ids body vs)
  chosen_way ids k (answer a rs body others) x vs =
      if is_for rs x then behind (at a ∷ []) (way_of ids body vs)
      else chosen_way ids k others x vs

-- ---- JOINs

abbrev pub connection_at : PlainProcess → List ℕ → Option PlainConnection
connection_at p x = option_and_then (slice_get p.connections) (number_of (connector_names p) x)

-- the connection to which an end jumps
abbrev pub joined_at : PlainProcess → Option End → Option PlainConnection
joined_at p None = None
joined_at p (Some (NextState n)) = None
joined_at p (Some (Stop k)) = None
joined_at p (Some (Join j)) = connection_at p j.connector.name

-- the path on through that connection, if there is one
abbrev pub joined_way : Option PlainConnection → Way → (Text → Way) → Way
joined_way None w f = w
joined_way (Some k) w f = behind w.taken (f k.text)

abbrev pub way_on : PlainProcess → Way → (Text → List (Option Value) → Way) → Way
way_on p w f = joined_way (joined_at p w.end) w (λ t. f t w.values)

-- the path through a text and through the connections that it joins, at most n
abbrev pub whole_way : PlainProcess → ℕ → Text → List (Option Value) → Way
whole_way p zero t vs = way_of (variable_names p) t vs
whole_way p (suc n) t vs =
    way_on p (way_of (variable_names p) t vs) (λ u ws. whole_way p n u ws)

-- the parts taken on that path
abbrev pub through : PlainProcess → ℕ → Text → List (Option Value) → List Taken
through p n t vs = (whole_way p n t vs).taken
