use Rattle.std.proofs.Common.{◌≡◌, ℕ, ◌<◌, ◌++◌, List, take, map, vec_len}
use Rattle.std.specs.List.{AllByRecursion}
use Rattle.sdl_ast.specs.declared.expression.Identifier.{Identifier}
use Rattle.sdl_tables.specs.Scopes.{Marks, repeats}
use Rattle.sdl_tables.specs.Triggers.{IsNumbered, Stamped, AreBelow}
use Rattle.sdl_tables.proofs.triggers.stamp_part.Given as goal

abbrev pub invariant-loop-trigger : goal.invariant-loop-trigger
invariant-loop-trigger l = record {
  double : (names before : List Identifier) → Stamped names l.initial.seen.items l.stamp before → AllByRecursion (IsNumbered names) l.triggers
      → Marks l.double (repeats before (map (λ t. t.id) (take l.trigger-index l.triggers)));
  stamped : (names before : List Identifier) → Stamped names l.initial.seen.items l.stamp before → AllByRecursion (IsNumbered names) l.triggers
      → Stamped names l.seen.items l.stamp (before ++ map (λ t. t.id) (take l.trigger-index l.triggers));
  below : (bound : ℕ) → l.stamp < bound → AreBelow l.initial.seen.items bound → AreBelow l.seen.items bound;
  len : vec_len l.seen ≡ vec_len l.initial.seen;
}
