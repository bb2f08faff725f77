use Rattle.std.proofs.Common.{◌≡◌, ℕ, ◌<◌, length, Some}
use Rattle.std.specs.Prelude.{slice_get}
use Rattle.turn_code.specs.declared.draft.DraftProcess.{DraftProcess}
use Rattle.turn_code.specs.Sorts.{sort_bits, sorts_of}
use Rattle.turn_check.proofs.verified.bits_of_variables.Given as goal

abbrev pub invariant-loop-number : goal.invariant-loop-number
invariant-loop-number l =
    (length l.bits ≡ 16)
    × ((n : ℕ) (p : DraftProcess) → n < l.number → slice_get l.processes n ≡ Some p → slice_get l.bits n ≡ Some (sort_bits (sorts_of p.variables)))
