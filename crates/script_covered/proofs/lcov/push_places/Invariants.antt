-- The lines written so far, and those still to write.
use Rattle.std.proofs.Common.{◌≡◌, ◌++◌, ℕ, List, drop, map}
use Rattle.std.specs.List.{flat_map}
use Rattle.script_covered.specs.Lcov.{AreLines, place_line, row_of}
use Rattle.script_covered.proofs.lcov.push_places.Given as goal

abbrev pub invariant-loop-row : goal.invariant-loop-row
invariant-loop-row l =
    (text : List ℕ) → AreLines text l.lines
    → l.out.items ++ flat_map (place_line text) (map row_of (drop l.row-index l.rows)) ≡ l.initial.out.items ++ flat_map (place_line text) (map row_of l.rows)
