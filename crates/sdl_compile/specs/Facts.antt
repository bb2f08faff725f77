-- The claims about each place of a piece: the operands, and the variables that are set.
use Rattle.std.specs.Prelude.{ℕ, if◌then◌else◌, List, [], ◌∷◌, ◌++◌, Option, None, Some}
use Rattle.sdl_ast.specs.declared.expression.Identifier.{Identifier}
use Rattle.sdl_ast.specs.declared.tree.Range.{Range}
use Rattle.sdl_ast.specs.Plain.{Tree, number, truth, variable, unary, binary, PlainAssignment}
use Rattle.sdl_ast.specs.Plain.{PlainSending, PlainAction, task, output, set_timer, reset_timer}
use Rattle.sdl_ast.specs.Plain.{Text, falls, ends, does, decides, Choice, nothing_else, otherwise}
use Rattle.sdl_ast.specs.Plain.{answer}
use Rattle.turn_code.specs.Code.{shape_after}
use Rattle.turn_code.specs.Sets.{with_variable}
use Rattle.turn_code.specs.declared.value.Sort.{Sort}
use Rattle.turn_code.specs.declared.variable_set.VariableSet.{VariableSet}
use Rattle.turn_code.specs.declared.instruction.Instruction.{Instruction}
use Rattle.turn_code.specs.declared.draft.DraftSignal.{DraftSignal}
use Rattle.turn_code.specs.declared.draft.DraftVariable.{DraftVariable}
use Rattle.sdl_sound.specs.Going.{goes_on}
use Rattle.sdl_sound.specs.Longest.{Piece, is_division}
use Rattle.sdl_meaning.specs.Act.{is_truth}
use Rattle.sdl_meaning.specs.Outcomes.{Scope, variable_at}
use Rattle.sdl_meaning.specs.Code.{number_or_zero, text_at}
use Rattle.sdl_compile.specs.Reads.{action_set, left, choice_left, places_set}
use Rattle.sdl_compile.specs.Entries.{entry_at, piece_entries}

-- The operands at each place, from a place with these on. No operands are left before a body, or
-- before the code after a DECISION, or before a connection. So the order of the code is enough.
abbrev pub shapes_from :
    List DraftSignal → List DraftVariable → List Sort → List Sort → List Instruction
    → List (List Sort)
shapes_from ss xs ps shape [] = []
shapes_from ss xs ps shape (i ∷ is) = shape ∷ shapes_from ss xs ps (shape_after ss xs ps i shape) is

-- ---- the variables set at each place of the code of a text, which begins with these set

-- an expression sets nothing
abbrev pub tree_sets : VariableSet → Tree → List VariableSet
tree_sets m (number at k) = m ∷ []
tree_sets m (truth at b) = m ∷ []
tree_sets m (variable at n) = m ∷ []
tree_sets m (unary at op t) = tree_sets m t ++ m ∷ []
tree_sets m (binary at op t u) =
    if is_division op then tree_sets m t ++ m ∷ [] else tree_sets m t ++ (tree_sets m u ++ m ∷ [])

abbrev pub trees_sets : VariableSet → List Tree → List VariableSet
trees_sets m [] = []
trees_sets m (t ∷ ts) = tree_sets m t ++ trees_sets m ts

abbrev pub sendings_sets : VariableSet → List PlainSending → List VariableSet
sendings_sets m [] = []
sendings_sets m (x ∷ rest) = trees_sets m x.parameters ++ m ∷ sendings_sets m rest

abbrev pub tasks_sets : Scope → VariableSet → List PlainAssignment → List VariableSet
tasks_sets c m [] = []
tasks_sets c m (a ∷ rest) =
    tree_sets m a.value ++ m
    ∷ tasks_sets c (with_variable m (number_or_zero (variable_at c a.variable))) rest

abbrev pub action_sets : Scope → VariableSet → PlainAction → List VariableSet
action_sets c m (task at ts) = tasks_sets c m ts
action_sets c m (output at xs to) = sendings_sets m xs
action_sets c m (set_timer at t n) = tree_sets m t ++ m ∷ []
action_sets c m (reset_timer at n) = m ∷ []

-- The places of the tests, one for each range.
abbrev pub ranges_sets : VariableSet → List Range → List VariableSet
ranges_sets m [] = []
ranges_sets m (r ∷ rs) = m ∷ ranges_sets m rs

-- The places of the tests, and of the drop before ELSE.
abbrev pub tests_sets : VariableSet → Choice → List VariableSet
tests_sets m nothing_else = []
tests_sets m (otherwise body) = m ∷ []
tests_sets m (answer at rs body others) = ranges_sets m rs ++ tests_sets m others

-- A body that goes on ends with a jump.
abbrev pub leave_sets : VariableSet → Text → List VariableSet
leave_sets m body = if goes_on body then m ∷ [] else []

abbrev mutual
  pub text_sets : Scope → VariableSet → Text → List VariableSet
  text_sets c m falls = []
  text_sets c m (ends e) = m ∷ []
  text_sets c m (does a rest) = action_sets c m a ++ text_sets c (action_set c m a) rest
  text_sets c m (decides at q choice rest) =
      (tree_sets m q ++ (if is_truth c q
      then m ∷ (answers_sets c m choice ++ else_sets c m choice)
      else tests_sets m choice ++ (else_sets c m choice ++ answers_sets c m choice)))
      ++ text_sets c (choice_left c m choice) rest

  -- The places of the body of ELSE.
  pub else_sets : Scope → VariableSet → Choice → List VariableSet
  else_sets c m nothing_else = []
  else_sets c m (otherwise body) = text_sets c m body ++ leave_sets (left c m body) body
  else_sets c m (answer at rs body others) = else_sets c m others

  -- The places of the bodies of the answers.
  pub answers_sets : Scope → VariableSet → Choice → List VariableSet
  answers_sets c m nothing_else = []
  answers_sets c m (otherwise body) = []
  answers_sets c m (answer at rs body others) =
      (text_sets c m body ++ leave_sets (left c m body) body) ++ answers_sets c m others

-- The places of a DECISION with its bodies.
abbrev pub decision_sets : Scope → VariableSet → Tree → Choice → List VariableSet
decision_sets c m q choice = tree_sets m q ++ (if is_truth c q
    then m ∷ (answers_sets c m choice ++ else_sets c m choice)
    else tests_sets m choice ++ (else_sets c m choice ++ answers_sets c m choice))

-- Each place with a name loads a parameter and stores it.
abbrev pub places_sets : Scope → VariableSet → List (Option Identifier) → List VariableSet
places_sets c m [] = []
places_sets c m (None ∷ rest) = places_sets c m rest
places_sets c m (Some n ∷ rest) =
    m ∷ m ∷ places_sets c (with_variable m (number_or_zero (variable_at c n))) rest

-- The places of connections by their numbers, one after another.
abbrev pub connections_sets : Scope → List VariableSet → List ℕ → List VariableSet
connections_sets c es [] = []
connections_sets c es (n ∷ ns) =
    text_sets c (entry_at es n) (text_at c n) ++ connections_sets c es ns

-- The places of a piece with these connections. In `order` each connection comes after those that
-- it joins.
abbrev pub piece_sets : Scope → VariableSet → Piece → List ℕ → List ℕ → List VariableSet
piece_sets c m q order ns =
    places_sets c m q.places
    ++ (text_sets c (places_set c m q.places) q.text
    ++ connections_sets c (piece_entries c m q order) ns)
