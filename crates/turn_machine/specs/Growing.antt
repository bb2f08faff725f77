-- Effects with one more, made from words.
use Rattle.std.specs.Prelude.{◌≡◌, ◌<◌, List, [], ◌∷◌, ◌++◌, length, Option, Some, None}
use Rattle.plain_laws.specs.Limits.{MOST_EFFECTS}
use Rattle.turn_code.specs.declared.effect.Effect.{Effect}
use Rattle.turn_code.specs.declared.after.BareEffect.{BareEffect}
use Rattle.turn_code.specs.Pieces.{PlainPiece}
use Rattle.turn_code.specs.Meant.{IsEffectOf}
use Rattle.turn_code.specs.Sorts.{IsOfSorts}

-- the new effect follows the others and has the sorts of its signal; there was room for it
abbrev pub IsGrown : PlainPiece → Option BareEffect → List Effect → List Effect → Type 0
IsGrown p None old new = new ≡ old
IsGrown p (Some given) old new =
    (e : Effect) × IsEffectOf p.sender given e × IsOfSorts p.sorts e
    × (length old < MOST_EFFECTS) × (new ≡ old ++ e ∷ [])

-- the effects can grow
abbrev pub CanGrow : PlainPiece → Option BareEffect → List Effect → Type 0
CanGrow p given old = (new : List Effect) × IsGrown p given old new
