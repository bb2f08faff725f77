use Rattle.std.proofs.Common.{◌≡◌, ℕ, length, Some}
use Rattle.std.specs.Prelude.{slice_get}
use Rattle.std.specs.Int.{bit_at}
use Rattle.sdl_unset.specs.Fates.{set_bit}
use Rattle.sdl_unset.proofs.sets.sets_in.Given as goal

abbrev pub invariant-loop-state : goal.invariant-loop-state
invariant-loop-state l = record {
  count : length l.sets.items ≡ l.state;
  bits : (q set : ℕ) → slice_get l.sets.items q ≡ Some set → (v : ℕ) → bit_at set v ≡ set_bit l.fates q v;
}
