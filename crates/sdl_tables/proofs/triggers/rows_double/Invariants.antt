use Rattle.std.proofs.Common.{◌≡◌, ◌+◌, ◌++◌, [], ℕ, List, take, map, length, vec_len}
use Rattle.std.specs.List.{flat_map}
use Rattle.sdl_ast.specs.declared.expression.Identifier.{Identifier}
use Rattle.sdl_tables.specs.Scopes.{Marks, repeats}
use Rattle.sdl_tables.specs.Triggers.{taken_by, taken_in, AreNumbered, AreBelow}
use Rattle.sdl_tables.proofs.triggers.rows_double.Given as goal

abbrev pub invariant-loop-state : goal.invariant-loop-state
invariant-loop-state l = record {
  len : vec_len l.seen ≡ l.count;
  below : AreBelow l.seen.items (l.state + 1);
  last : (places : List ℕ) × (flat_map (repeats []) (map (taken_in (taken_by l.parts)) (take l.state l.rows)) ≡ places ++ repeats [] (flat_map (taken_by l.parts) l.before));
  double : (names : List Identifier) → length names ≡ l.count → AreNumbered names l.parts
      → Marks l.double (flat_map (repeats []) (map (taken_in (taken_by l.parts)) (take l.state l.rows)));
}
