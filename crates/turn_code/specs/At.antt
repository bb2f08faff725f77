-- The facts of a place hold at a point of a run.
use Rattle.std.specs.Prelude.{◌≡◌, ℕ, List, map, Option, Some, slice_get}
use Rattle.turn_code.specs.Values.{sort_of}
use Rattle.turn_code.specs.Transitions.{Transition}
use Rattle.turn_code.specs.Fits.{HaveSorts, AreSet}
use Rattle.turn_code.specs.declared.value.Value.{Value}
use Rattle.turn_code.specs.declared.draft.PlaceFacts.{PlaceFacts}

-- the facts of place k hold of these operands, the topmost first, and of these variables
pub record IsAt (t : Transition) (k : ℕ) (os : List Value) (vs : List (Option Value)) : Type 0 where
  pub facts : PlaceFacts
  pub is : slice_get t.piece.facts k ≡ Some facts
  pub shape : map sort_of os ≡ facts.shape
  pub variables : HaveSorts t.process.variables vs
  pub set : AreSet facts.set vs
