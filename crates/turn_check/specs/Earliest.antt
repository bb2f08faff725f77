-- The first rule that a draft breaks: nothing before it is broken.
use Rattle.std.specs.Prelude.{◌≡◌, ℕ, ◌<◌, Some}
use Rattle.turn_code.specs.Transitions.{Transition, transition_at}
use Rattle.turn_code.specs.Rules.{KeepsSetLimits}
use Rattle.turn_code.specs.declared.input.Place.{Place}
use Rattle.turn_code.specs.declared.input.Place.TheVariants.{Start, State}
use Rattle.turn_code.specs.declared.draft.Draft.{Draft}
use Rattle.turn_rules.specs.First.{NoneBefore}
use Rattle.turn_check.specs.declared.fault.VerifyFault.{VerifyFault}
use Rattle.turn_check.specs.declared.fault.VerifyFault.TheVariants.{Limit}
use Rattle.turn_check.specs.Faults.{rule_of, spot_of}
use Rattle.turn_check.specs.Walk.{IsValidAt, IsValidState, IsValidProcess}

-- START comes before each state, and a state before those with greater numbers
abbrev pub IsEarlier : Place → Place → Type 0
IsEarlier Start Start = ⊥
IsEarlier Start (State n) = Unit {0}
IsEarlier (State m) Start = ⊥
IsEarlier (State m) (State n) = m.0 < n.0

-- the fault of a draft that exceeds the limits of a set
abbrev pub BEYOND_LIMITS : VerifyFault
BEYOND_LIMITS =
    Limit (record { process = record { 0 = 0 }; state = Start; input = 0; place = 0 })

-- Nothing before this fault is broken. The limits of the set come first, then its processes in
-- order. Of a process START comes first, then its states in order; of a state its inputs come in
-- order. Within a transition `NoneBefore` states the order.
pub record IsFirstFault (d : Draft) (e : VerifyFault) : Type 0 where
  pub limits : (e ≡ BEYOND_LIMITS → ⊥) → KeepsSetLimits d
  pub processes : (p : ℕ) → p < (spot_of e).process.0 → IsValidProcess d p
  pub states :
      (s : Place) → IsEarlier s (spot_of e).state → IsValidState d (spot_of e).process.0 s
  pub inputs : (i : ℕ) → i < (spot_of e).input
      → IsValidAt d (spot_of e).process.0 (spot_of e).state i
  pub here : KeepsSetLimits d → (t : Transition)
      → transition_at d (spot_of e).process.0 (spot_of e).state (spot_of e).input ≡ Some t
      → NoneBefore d t (rule_of e) (spot_of e).place

-- a fault at input i at place s of process p; nothing before it in that transition is broken
pub record IsFirstAt (d : Draft) (p : ℕ) (s : Place) (i : ℕ) (e : VerifyFault) : Type 0 where
  pub process : (spot_of e).process.0 ≡ p
  pub state : (spot_of e).state ≡ s
  pub input : (spot_of e).input ≡ i
  pub here : (t : Transition) → transition_at d p s i ≡ Some t
      → NoneBefore d t (rule_of e) (spot_of e).place

-- a fault at place s of process p; nothing before it at that place is broken
pub record IsFirstOfState (d : Draft) (p : ℕ) (s : Place) (e : VerifyFault) : Type 0 where
  pub at : IsFirstAt d p s (spot_of e).input e
  pub inputs : (i : ℕ) → i < (spot_of e).input → IsValidAt d p s i

-- a fault of process p; nothing before it in that process is broken
pub record IsFirstOfProcess (d : Draft) (p : ℕ) (e : VerifyFault) : Type 0 where
  pub state : IsFirstOfState d p (spot_of e).state e
  pub states : (s : Place) → IsEarlier s (spot_of e).state → IsValidState d p s
