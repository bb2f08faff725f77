-- A valid draft, and the places where a draft breaks a rule.
use Rattle.std.specs.Prelude.{◌≡◌, ℕ, Some}
use Rattle.turn_code.specs.Transitions.{Transition, transition_at}
use Rattle.turn_code.specs.Rules.{JumpsInside, KeepsShapes, HasOperands, KeepsSorts, KeepsSets}
use Rattle.turn_code.specs.Rules.{HasStates, HasNumbers, KeepsSetLimits, KeepsLimits, KeepsCounts}
use Rattle.turn_code.specs.declared.input.Place.{Place}
use Rattle.turn_code.specs.declared.input.Place.TheVariants.{Start}
use Rattle.turn_code.specs.declared.draft.Draft.{Draft}
use Rattle.turn_code.specs.declared.rule.Rule.{Rule}
use Rattle.turn_code.specs.declared.rule.Rule.TheVariants.{Jump, Shape, Under, Sort, Unset, State}
use Rattle.turn_code.specs.declared.rule.Rule.TheVariants.{Number, Limit, Budget}

-- a transition keeps a rule at place k of its piece
abbrev pub Keeps : Rule → Draft → Transition → ℕ → Type 0
Keeps Jump d t k = JumpsInside t k
Keeps Shape d t k = KeepsShapes d.signals t k
Keeps Under d t k = HasOperands d.signals t k
Keeps Sort d t k = KeepsSorts d.signals t k
Keeps Unset d t k = KeepsSets t k
Keeps State d t k = HasStates t k
Keeps Number d t k = HasNumbers d t k
Keeps Limit d t k = KeepsLimits d t k
Keeps Budget d t k = KeepsCounts t k

-- a transition of d keeps every rule at every place
pub record IsValidTransition (d : Draft) (t : Transition) : Type 0 where
  pub jump : (k : ℕ) → JumpsInside t k
  pub shape : (k : ℕ) → KeepsShapes d.signals t k
  pub under : (k : ℕ) → HasOperands d.signals t k
  pub sort : (k : ℕ) → KeepsSorts d.signals t k
  pub unset : (k : ℕ) → KeepsSets t k
  pub state : (k : ℕ) → HasStates t k
  pub number : (k : ℕ) → HasNumbers d t k
  pub limit : (k : ℕ) → KeepsLimits d t k
  pub budget : (k : ℕ) → KeepsCounts t k

-- a draft within the limits of a set whose transitions keep every rule at every place
pub record IsValid (d : Draft) : Type 0 where
  pub limits : KeepsSetLimits d
  pub each : (p : ℕ) (s : Place) (i : ℕ) (t : Transition) → transition_at d p s i ≡ Some t
      → IsValidTransition d t

-- what a rule requires of place k of input i at place s of process p; a limit of the whole set is
-- V8 at place 0 of the START of process 0
pub record KeepsAt (d : Draft) (rule : Rule) (p : ℕ) (s : Place) (i k : ℕ) : Type 0 where
  pub whole : rule ≡ Limit → p ≡ 0 → s ≡ Start → i ≡ 0 → k ≡ 0 → KeepsSetLimits d
  pub each : (t : Transition) → transition_at d p s i ≡ Some t → Keeps rule d t k

-- the rule is broken there
abbrev pub IsBrokenAt : Draft → Rule → ℕ → Place → ℕ → ℕ → Type 0
IsBrokenAt d rule p s i k = KeepsAt d rule p s i k → ⊥
