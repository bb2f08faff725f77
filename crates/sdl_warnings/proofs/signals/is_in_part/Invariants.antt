use Rattle.std.proofs.Common.{map, take, ◌≡◌}
use Rattle.sdl_ast.specs.Views.{clause_of}
use Rattle.sdl_tables.specs.Names.{clause_triggers, is_in}
use Rattle.std.specs.List.{flat_map}
use Rattle.sdl_warnings.proofs.signals.is_in_part.Given as goal

abbrev pub invariant-loop-clause : goal.invariant-loop-clause
invariant-loop-clause l =
    l.any ≡ is_in (flat_map clause_triggers (map clause_of (take l.clause-index l.clause-items))) l.signal
