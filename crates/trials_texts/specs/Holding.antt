-- Values that satisfy the claims about a place of a transition's code.
use Rattle.std.specs.Prelude.{◌≡◌, ℕ, List, map, Option, Some, slice_get}
use Rattle.turn_code.specs.Values.{sort_of}
use Rattle.turn_code.specs.Fits.{AreSet}
use Rattle.turn_code.specs.declared.value.Value.{Value}
use Rattle.turn_code.specs.declared.draft.DraftPiece.{DraftPiece}
use Rattle.turn_code.specs.declared.draft.PlaceFacts.{PlaceFacts}

-- the operands, topmost first, have the sorts that place k requires, and the variables that it
-- claims set are set
abbrev pub HoldAt : DraftPiece → ℕ → List Value → List (Option Value) → Type 0
HoldAt piece k os vs =
    (f : PlaceFacts) × (slice_get piece.facts k ≡ Some f) × (map sort_of os ≡ f.shape)
    × AreSet f.set vs
