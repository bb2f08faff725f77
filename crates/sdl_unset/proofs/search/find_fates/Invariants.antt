use Rattle.std.proofs.Common.{◌≡◌, ℕ, length, Some}
use Rattle.std.specs.Prelude.{slice_get}
use Rattle.sdl_unset.specs.declared.paths.Fate.{Fate}
use Rattle.sdl_unset.specs.Fates.{IsFate}
use Rattle.sdl_unset.proofs.search.find_fates.Given as goal

abbrev pub invariant-loop-variable : goal.invariant-loop-variable
invariant-loop-variable l = record {
  count : length l.fates.items ≡ l.variable;
  each : (v : ℕ) (f : Fate) → slice_get l.fates.items v ≡ Some f → IsFate l.graph v f;
}
