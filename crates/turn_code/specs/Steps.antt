-- A step on words agrees with the step on the values that they represent.
use Rattle.std.specs.Prelude.{◌≡◌, ℕ, ◌≤◌, List, length, map}
use Rattle.plain_laws.specs.Limits.{MOST_VARIABLES}
use Rattle.turn_code.specs.Values.{sort_of}
use Rattle.turn_code.specs.Run.{Progress, After as Tagged, goes, ends, stuck, step}
use Rattle.turn_code.specs.Transitions.{Transition}
use Rattle.turn_code.specs.Rules.{KeepsSetLimits}
use Rattle.turn_code.specs.Valid.{IsValidTransition}
use Rattle.turn_code.specs.Fits.{IsBrought}
use Rattle.turn_code.specs.At.{IsAt}
use Rattle.turn_code.specs.declared.value.Value.{Value}
use Rattle.turn_code.specs.declared.input.Input.{Input}
use Rattle.turn_code.specs.declared.draft.Draft.{Draft}
use Rattle.turn_code.specs.declared.words.Words.{Words}
use Rattle.turn_code.specs.declared.after.BareAfter.{BareAfter}
use Rattle.turn_code.specs.declared.after.Next.TheVariants.{Goes, Ends}
use Rattle.turn_code.specs.Bare.{bare_of}
use Rattle.turn_code.specs.Meant.{AreWordsOf, Grow}
use Rattle.turn_code.specs.Pieces.{PlainPiece}
use Rattle.turn_code.specs.Sorts.{AreSortsOf}

-- The code is that of a valid transition, and the parameters have its sorts. A route brought its
-- signal from the sender that the piece names. The words at place k represent operands, variables
-- and parameters that fit the facts of that place.
pub record Stand (d : Draft) (t : Transition) (p : PlainPiece) (k : ℕ) (w : Words) (x : Input)
    (os : List Value) (s : Progress) : Type 0 where
  pub limits : KeepsSetLimits d
  pub variables : length t.process.variables ≤ MOST_VARIABLES
  pub valid : IsValidTransition d t
  pub code : t.piece.code ≡ p.code
  pub sorts : AreSortsOf d.signals t.process.variables p.sorts
  pub sender : x.sender ≡ p.sender
  pub brought : IsBrought d t.number t.trigger x.sender
  pub parameters : map sort_of x.parameters.items ≡ t.parameters
  pub at : IsAt t k os s.variables
  pub words : AreWordsOf (bare_of w) os s.variables x.parameters.items

-- the result of the step on values agrees with that of the step on words: the words at the next
-- place represent the values there
abbrev pub Follows :
    Draft → Transition → PlainPiece → Input → Progress → BareAfter → Words → Tagged → Type 0
Follows d t p x s a w (goes k os s') =
    (a.next ≡ Goes k) × Grow x.sender a.effect s.effects s'.effects × Stand d t p k w x os s'
Follows d t p x s a w (ends e s') =
    (a.next ≡ Ends e) × Grow x.sender a.effect s.effects s'.effects
    × ((os : List Value) × AreWordsOf (bare_of w) os s'.variables x.parameters.items)
Follows d t p x s a w (stuck trouble) = ⊥

-- the step agrees for all values that the words represent
abbrev pub IsStep : PlainPiece → ℕ → Words → BareAfter → Words → Type 0
IsStep p k old a new =
    (d : Draft) (t : Transition) (x : Input) (os : List Value) (s : Progress)
    → Stand d t p k old x os s
    → Follows d t p x s a new (step t.piece.code x k os s)
