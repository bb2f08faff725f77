use Rattle.std.proofs.Common.{◌≡◌, None}
use Rattle.std.specs.Prelude.{IfSome}
use Rattle.sdl_unset.specs.Fates.{IsUnsetAt}
use Rattle.sdl_unset.proofs.Searches.{AreSetBelow, HasFirstBelow}
use Rattle.sdl_unset.proofs.search.find_first.Given as goal

abbrev pub invariant-loop-variable : goal.invariant-loop-variable
invariant-loop-variable l = record {
  found : IfSome l.best (IsUnsetAt l.fates);
  first : IfSome l.best (HasFirstBelow l.fates l.variable);
  none : l.best ≡ None → AreSetBelow l.fates l.variable;
}
