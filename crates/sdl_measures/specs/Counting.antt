-- The measures of connections, as read when a text that joins them is counted.
use Rattle.std.specs.Prelude.{◌≡◌, ℕ, ◌+◌, Bool, true, false, List, slice_get}
use Rattle.std.specs.Option.{option_map_or}
use Rattle.sdl_ast.specs.Plain.{Text, Choice, PlainProcess}
use Rattle.sdl_tables.specs.Names.{number_of, connector_names, Variable, variables_of}
use Rattle.sdl_sound.specs.Longest.{budget, case_budget, pick_budget, depth, choice_depth, effects}
use Rattle.sdl_sound.specs.Longest.{choice_effects, size, bodies_size, tests_size}
use Rattle.sdl_sound.specs.Going.{goes_on, choice_goes_on}
use Rattle.sdl_measures.specs.Measures.{capped}
use Rattle.sdl_measures.specs.declared.measures.Measure.{Measure}

abbrev pub no_measure : Measure
no_measure = record { budget = 0; depth = 0; effects = 0; size = 0; goes_on = false }

-- The measure of the connection with this number, or with this name; `no_measure` if there is
-- none.
abbrev pub measure_at : List Measure → ℕ → Measure
measure_at ms n = option_map_or (λ m. m) (slice_get ms n) no_measure

abbrev pub measure_named : PlainProcess → List Measure → List ℕ → Measure
measure_named p ms x = option_map_or (measure_at ms) (number_of (connector_names p) x) no_measure

abbrev pub budget_named : PlainProcess → List Measure → List ℕ → ℕ
budget_named p ms x = (measure_named p ms x).budget

abbrev pub depth_named : PlainProcess → List Measure → List ℕ → ℕ
depth_named p ms x = (measure_named p ms x).depth

abbrev pub effects_named : PlainProcess → List Measure → List ℕ → ℕ
effects_named p ms x = (measure_named p ms x).effects

-- ---- the counts of a text that something follows

-- What follows costs k instructions and has e effects.
pub record IsBehind (k e : ℕ) (m : Measure) : Type 0 where
  pub budget : m.budget ≡ capped k
  pub effects : m.effects ≡ capped e

-- The counts of a text before it, where `ms` are the measures of the connections.
pub record IsMeasured (p : PlainProcess) (ms : List Measure) (t : Text) (k e : ℕ) (m : Measure) :
    Type 0 where
  pub budget : m.budget ≡ capped (budget (variables_of p) (budget_named p ms) t k)
  pub depth : m.depth ≡ capped (depth (depth_named p ms) t)
  pub effects : m.effects ≡ capped (effects (effects_named p ms) t e)
  pub size : m.size ≡ capped (size (variables_of p) t)
  pub goes_on : m.goes_on ≡ goes_on t

-- The budget of the answers to a Boolean or an Integer question.
abbrev pub answers_budget : Bool → List Variable → (List ℕ → ℕ) → Choice → ℕ → ℕ
answers_budget true vs join c k = pick_budget vs join c k
answers_budget false vs join c k = case_budget vs join c k

-- How many tests the answers have, with the drop before ELSE.
abbrev pub answers_tests : Bool → Choice → ℕ
answers_tests true c = 0
answers_tests false c = tests_size c

-- The counts of the answers.
pub record AreMeasured (p : PlainProcess) (ms : List Measure) (truth : Bool) (c : Choice) (k e : ℕ)
    (m : Measure) : Type 0 where
  pub budget : m.budget ≡ capped (answers_budget truth (variables_of p) (budget_named p ms) c k)
  pub depth : m.depth ≡ capped (choice_depth (depth_named p ms) c)
  pub effects : m.effects ≡ capped (choice_effects (effects_named p ms) c e)
  pub size : m.size ≡ capped (answers_tests truth c + bodies_size (variables_of p) c)
  pub goes_on : m.goes_on ≡ choice_goes_on c
