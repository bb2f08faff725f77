-- The right sorts, divisors and receivers of a text; and each body leaves set what is set after its DECISION.
use Rattle.std.proofs.Common.{◌≡◌, ℕ, List, [], ◌∷◌}
use Rattle.std.specs.Prelude.{All}
use Rattle.std.proofs.lemmas.List.Elements.{All-cons}
use Rattle.sdl_ast.specs.Plain.{Tree, PlainAction, Text, falls, ends, does, decides, Choice, nothing_else, otherwise, answer}
use Rattle.turn_code.specs.declared.variable_set.VariableSet.{VariableSet}
use Rattle.turn_code.specs.Sets.{IsWithin}
use Rattle.sdl_tables.specs.Names.{variables_of}
use Rattle.sdl_sound.specs.Actions.{Origin}
use Rattle.sdl_sound.specs.Sorts.{wrong_in, wrong_action}
use Rattle.sdl_sound.specs.Divisors.{bad_divisors_in, action_divisors}
use Rattle.sdl_sound.specs.Receivers.{lost_action, doubtful_action}
use Rattle.sdl_meaning.specs.Outcomes.{Scope}
use Rattle.sdl_compile.specs.Reads.{everything, meet, left, answers_left, else_left, choice_left}
use Rattle.sdl_compile.proofs.Rights.{one_of as one_at}
use Rattle.sdl_compile.proofs.UnsetLaws.{meet_front, meet_back}

-- ---- the property of a right text

abbrev pub RightAction : Scope → List Origin → PlainAction → Type 0
RightAction c is a =
    (wrong_action c.block (variables_of c.process) a ≡ []) × (action_divisors a ≡ []) × (lost_action c.block c.process is a ≡ []) × (doubtful_action c.block c.process a ≡ [])

abbrev pub RightTree : Scope → Tree → Type 0
RightTree c q = (wrong_in (variables_of c.process) q ≡ []) × (bad_divisors_in q ≡ [])

-- The sorts, divisors and receivers of a text are right.
abbrev mutual
  pub RightText : Scope → List Origin → Text → Type 0
  RightText c is falls = Unit {0}
  RightText c is (ends e) = Unit {0}
  RightText c is (does a rest) = RightAction c is a × RightText c is rest
  RightText c is (decides at q choice rest) = RightTree c q × RightChoice c is choice × RightText c is rest

  pub RightChoice : Scope → List Origin → Choice → Type 0
  RightChoice c is nothing_else = Unit {0}
  RightChoice c is (otherwise body) = RightText c is body
  RightChoice c is (answer at rs body others) = RightText c is body × RightChoice c is others

-- ---- lists of places

pub two_at : (P : ℕ → Type 0) (v w : ℕ) → P v → P w → All P (v ∷ w ∷ [])
two_at P v w h k = All-cons P v (w ∷ []) h (one_at P w k)

-- ---- what is set after a DECISION is set after each body

module _ (c : Scope) where
  -- The bodies of the answers leave at least this set.
  abbrev AnswersLeave : VariableSet → VariableSet → Choice → Type 0
  AnswersLeave x m nothing_else = Unit {0}
  AnswersLeave x m (otherwise body) = Unit {0}
  AnswersLeave x m (answer at rs body others) = IsWithin x (left c m body) × AnswersLeave x m others

  abbrev ElseLeaves : VariableSet → VariableSet → Choice → Type 0
  ElseLeaves x m nothing_else = Unit {0}
  ElseLeaves x m (otherwise body) = IsWithin x (left c m body)
  ElseLeaves x m (answer at rs body others) = ElseLeaves x m others

  -- All bodies leave at least this set.
  abbrev pub Leaves : VariableSet → VariableSet → Choice → Type 0
  Leaves x m nothing_else = Unit {0}
  Leaves x m (otherwise body) = IsWithin x (left c m body)
  Leaves x m (answer at rs body others) = IsWithin x (left c m body) × Leaves x m others

  both_leave : (x m : VariableSet) (choice : Choice) → AnswersLeave x m choice → ElseLeaves x m choice → Leaves x m choice
  both_leave x m nothing_else h k = tt
  both_leave x m (otherwise body) h k = k
  both_leave x m (answer at rs body others) h k = (h.0, both_leave x m others h.1 k)

  all_within : (m all : VariableSet) (choice : Choice) → IsWithin (answers_left c m all choice) all
  all_within m all nothing_else v has = has
  all_within m all (otherwise body) v has = has
  all_within m all (answer at rs body others) v has = meet_front all (left c m body) v (all_within m (meet all (left c m body)) others v has)

  answers_leave : (x m all : VariableSet) (choice : Choice) → IsWithin x (answers_left c m all choice) → AnswersLeave x m choice
  answers_leave x m all nothing_else h = tt
  answers_leave x m all (otherwise body) h = tt
  answers_leave x m all (answer at rs body others) h = (
    λ v has. meet_back all (left c m body) v (all_within m (meet all (left c m body)) others v (h v has)),
    answers_leave x m (meet all (left c m body)) others h,
  )

  else_leaves : (x m : VariableSet) (choice : Choice) → IsWithin x (else_left c m choice) → ElseLeaves x m choice
  else_leaves x m nothing_else h = tt
  else_leaves x m (otherwise body) h = h
  else_leaves x m (answer at rs body others) h = else_leaves x m others h

  pub choice_leaves : (m : VariableSet) (choice : Choice) → Leaves (choice_left c m choice) m choice
  choice_leaves m choice =
      let x = choice_left c m choice in
      both_leave x m choice (answers_leave x m everything choice (meet_front (answers_left c m everything choice) (else_left c m choice))) (else_leaves x m choice (meet_back (answers_left c m everything choice) (else_left c m choice)))
