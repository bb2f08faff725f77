use Rattle.std.proofs.Common.{◌≡◌, ℕ, ◌<◌, length, Some}
use Rattle.std.specs.Prelude.{slice_get}
use Rattle.turn_code.specs.declared.draft.DraftSignal.{DraftSignal}
use Rattle.turn_code.specs.Sorts.{sort_bits}
use Rattle.turn_code.proofs.sorts.parameter_bits.Given as goal

abbrev pub invariant-loop-number : goal.invariant-loop-number
invariant-loop-number l =
    (length l.bits ≡ 128)
    × ((n : ℕ) (s : DraftSignal) → n < l.number → slice_get l.signals n ≡ Some s → slice_get l.bits n ≡ Some (sort_bits s.parameters))
