-- What holds of each effect of a run.
use Rattle.std.specs.Prelude.{◌≡◌, ◌<◌, List, [], ◌∷◌, length, map, slice_get}
use Rattle.turn_code.specs.Values.{sort_of}
use Rattle.turn_code.specs.Run.{Progress, run, ended}
use Rattle.turn_code.specs.Routes.{IsPartyOf, Reaches}
use Rattle.turn_code.specs.Transitions.{Transition, parameters_of}
use Rattle.turn_code.specs.Valid.{IsValidTransition}
use Rattle.turn_code.specs.Fits.{FitsTransition}
use Rattle.turn_code.specs.declared.input.Input.{Input}
use Rattle.turn_code.specs.declared.effect.Effect.{Effect}
use Rattle.turn_code.specs.declared.effect.Effect.TheVariants.{Output, Set, Reset}
use Rattle.turn_code.specs.declared.effect.Sending.{Sending}
use Rattle.turn_code.specs.declared.machine.End.{End}
use Rattle.turn_code.specs.declared.draft.Draft.{Draft}

-- the signal is declared, the parameters have its sorts, and a route of the process carries it to
-- its receiver, which is declared
pub record IsRightSending (d : Draft) (t : Transition) (s : Sending) : Type 0 where
  pub signal : s.signal.0 < length d.signals
  pub parameters : map sort_of s.parameters.items ≡ parameters_of (slice_get d.signals s.signal.0)
  pub receiver : IsPartyOf d.processes s.receiver.party
  pub reaches : Reaches d.routes t.number s.receiver.party s.signal

-- a timer that is set or reset is one of the process
abbrev pub IsRightEffect : Draft → Transition → Effect → Type 0
IsRightEffect d t (Output s) = IsRightSending d t s
IsRightEffect d t (Set n z) = n.0 < length t.process.timers
IsRightEffect d t (Reset n) = n.0 < length t.process.timers

-- each of these effects is right
abbrev pub AreRightEffects : Draft → Transition → List Effect → Type 0
AreRightEffects d t [] = Unit {0}
AreRightEffects d t (e ∷ es) = IsRightEffect d t e × AreRightEffects d t es

-- the run of a valid transition on an input that fits it has only right effects
abbrev pub EffectsLaw : Type 0
EffectsLaw =
    (d : Draft) (t : Transition) (x : Input) (e : End) (s : Progress) → IsValidTransition d t
    → FitsTransition d t x
    → run t.piece.code x ≡ ended e s → AreRightEffects d t s.effects
