-- The variables that a transition reads, and those that are set on its way.
use Rattle.std.specs.Prelude.{◌≡◌, List, [], ◌∷◌, Option, Some, None, slice_get, bit_and}
use Rattle.sdl_ast.specs.declared.expression.Identifier.{Identifier}
use Rattle.sdl_ast.specs.declared.tree.End.{End}
use Rattle.sdl_ast.specs.declared.tree.End.TheVariants.{NextState, Stop, Join}
use Rattle.sdl_ast.specs.Plain.{Tree, number, truth, variable, unary, binary, PlainAssignment}
use Rattle.sdl_ast.specs.Plain.{PlainSending, PlainAction, task, output, set_timer, reset_timer}
use Rattle.sdl_ast.specs.Plain.{Text, falls, ends, does, decides, Choice, nothing_else, otherwise}
use Rattle.sdl_ast.specs.Plain.{answer}
use Rattle.turn_code.specs.declared.variable_set.VariableSet.{VariableSet}
use Rattle.turn_code.specs.declared.draft.DraftState.{DraftState}
use Rattle.turn_code.specs.Sets.{Has, IsWithin, with_variable}
use Rattle.sdl_meaning.specs.Outcomes.{Scope, variable_at, state_at}
use Rattle.sdl_meaning.specs.Code.{number_or_zero}

-- The variables that a part of a text reads are set there.
abbrev pub ReadTree : Scope → VariableSet → Tree → Type 0
ReadTree c m (number at k) = Unit {0}
ReadTree c m (truth at b) = Unit {0}
ReadTree c m (variable at n) = Has m (number_or_zero (variable_at c n))
ReadTree c m (unary at op t) = ReadTree c m t
ReadTree c m (binary at op t u) = ReadTree c m t × ReadTree c m u

abbrev pub ReadTrees : Scope → VariableSet → List Tree → Type 0
ReadTrees c m [] = Unit {0}
ReadTrees c m (t ∷ ts) = ReadTree c m t × ReadTrees c m ts

abbrev pub ReadTasks : Scope → VariableSet → List PlainAssignment → Type 0
ReadTasks c m [] = Unit {0}
ReadTasks c m (a ∷ rest) =
    ReadTree c m a.value
    × ReadTasks c (with_variable m (number_or_zero (variable_at c a.variable))) rest

abbrev pub ReadSendings : Scope → VariableSet → List PlainSending → Type 0
ReadSendings c m [] = Unit {0}
ReadSendings c m (x ∷ rest) = ReadTrees c m x.parameters × ReadSendings c m rest

abbrev pub ReadAction : Scope → VariableSet → PlainAction → Type 0
ReadAction c m (task at ts) = ReadTasks c m ts
ReadAction c m (output at xs to) = ReadSendings c m xs
ReadAction c m (set_timer at t n) = ReadTree c m t
ReadAction c m (reset_timer at n) = Unit {0}

-- The variables that are set after assignments.
abbrev pub tasks_set : Scope → VariableSet → List PlainAssignment → VariableSet
tasks_set c m [] = m
tasks_set c m (a ∷ rest) =
    tasks_set c (with_variable m (number_or_zero (variable_at c a.variable))) rest

-- The variables that are set after an action. Only a TASK sets any.
abbrev pub action_set : Scope → VariableSet → PlainAction → VariableSet
action_set c m (task at ts) = tasks_set c m ts
action_set c m (output at xs to) = m
action_set c m (set_timer at t n) = m
action_set c m (reset_timer at n) = m

-- every variable
unfoldable pub everything : VariableSet
everything = record { 0 = 4294967295 }

-- the variables of both sets
abbrev pub meet : VariableSet → VariableSet → VariableSet
meet a b = record { 0 = bit_and a.0 b.0 }

abbrev mutual
  -- The variables that are set where a text runs off its end, for any choice of bodies. If it
  -- doesn't run off its end, these are all variables.
  pub left : Scope → VariableSet → Text → VariableSet
  left c m falls = m
  left c m (ends e) = everything
  left c m (does a rest) = left c (action_set c m a) rest
  left c m (decides at q choice rest) =
      left c (meet (answers_left c m everything choice) (else_left c m choice)) rest

  -- The variables of a set that all bodies of answers leave set, if they go on.
  pub answers_left : Scope → VariableSet → VariableSet → Choice → VariableSet
  answers_left c m all nothing_else = all
  answers_left c m all (otherwise body) = all
  answers_left c m all (answer at ranges body others) =
      answers_left c m (meet all (left c m body)) others

  -- The variables that are set after the body of ELSE.
  pub else_left : Scope → VariableSet → Choice → VariableSet
  else_left c m nothing_else = everything
  else_left c m (otherwise body) = left c m body
  else_left c m (answer at ranges body others) = else_left c m others

-- The variables that are set after a DECISION.
abbrev pub choice_left : Scope → VariableSet → Choice → VariableSet
choice_left c m choice = meet (answers_left c m everything choice) (else_left c m choice)

-- The set of the state in which a transition ends is within the variables that are set there.
abbrev pub EndsSet : Scope → List DraftState → VariableSet → End → Type 0
EndsSet c ss m (NextState n) =
    (s : DraftState) → slice_get ss (number_or_zero (state_at c n.state)) ≡ Some s
    → IsWithin s.set m
EndsSet c ss m (Stop at) = Unit {0}
EndsSet c ss m (Join j) = Unit {0}

abbrev mutual
  pub ReadText : Scope → List DraftState → VariableSet → Text → Type 0
  ReadText c ss m falls = Unit {0}
  ReadText c ss m (ends e) = EndsSet c ss m e
  ReadText c ss m (does a rest) = ReadAction c m a × ReadText c ss (action_set c m a) rest
  ReadText c ss m (decides at q choice rest) =
      ReadTree c m q × ReadChoice c ss m choice × ReadText c ss (choice_left c m choice) rest

  pub ReadChoice : Scope → List DraftState → VariableSet → Choice → Type 0
  ReadChoice c ss m nothing_else = Unit {0}
  ReadChoice c ss m (otherwise body) = ReadText c ss m body
  ReadChoice c ss m (answer at ranges body others) = ReadText c ss m body × ReadChoice c ss m others

-- The variables that are set after the places of INPUT.
abbrev pub places_set : Scope → VariableSet → List (Option Identifier) → VariableSet
places_set c m [] = m
places_set c m (None ∷ rest) = places_set c m rest
places_set c m (Some n ∷ rest) =
    places_set c (with_variable m (number_or_zero (variable_at c n))) rest
