use Rattle.std.proofs.Common.{◌≡◌, ℕ, ◌<◌, [], List, take, vec_len}
use Rattle.std.specs.Prelude.{IfSome}
use Rattle.std.specs.List.{flat_map}
use Rattle.sdl_ast.specs.declared.expression.Identifier.{Identifier}
use Rattle.sdl_tables.specs.Scopes.{Marks, repeats}
use Rattle.sdl_tables.specs.Triggers.{taken_by, AreNumbered, Stamped, AreBelow, Covers}
use Rattle.sdl_tables.proofs.triggers.state_double.Given as goal

abbrev pub invariant-loop-number : goal.invariant-loop-number
invariant-loop-number l = record {
  double : (names : List Identifier) → Stamped names l.initial.seen.items l.stamp [] → AreNumbered names l.parts
      → Marks l.double (repeats [] (flat_map (taken_by l.parts) (take l.number-index l.numbers)));
  stamped : (names : List Identifier) → Stamped names l.initial.seen.items l.stamp [] → AreNumbered names l.parts
      → Stamped names l.seen.items l.stamp (flat_map (taken_by l.parts) (take l.number-index l.numbers));
  covers : IfSome l.last (λ k. Covers (flat_map (taken_by l.parts) (take l.number-index l.numbers)) (taken_by l.parts k));
  below : (bound : ℕ) → l.stamp < bound → AreBelow l.initial.seen.items bound → AreBelow l.seen.items bound;
  len : vec_len l.seen ≡ vec_len l.initial.seen;
}
