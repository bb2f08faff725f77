-- The lines written so far.
use Rattle.std.proofs.Common.{[], ◌∷◌, take}
use Rattle.std.specs.List.{flat_map}
use Rattle.script_covered.specs.Lcov.{turns_line, row_of, IsSection}
use Rattle.script_covered.specs.declared.rows.Row.{Row}
use Rattle.script_covered.proofs.lcov.turns_section.Given as goal

abbrev pub invariant-loop-row : goal.invariant-loop-row
invariant-loop-row l = IsSection (flat_map (λ (r : Row). turns_line (row_of r)) (take l.row-index l.rows)) (flat_map (λ (r : Row). r.turns ∷ []) (take l.row-index l.rows)) l.section
