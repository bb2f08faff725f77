-- The lines written so far.
use Rattle.std.proofs.Common.{take}
use Rattle.std.specs.Prelude.{option_to_list}
use Rattle.std.specs.List.{flat_map}
use Rattle.script_covered.specs.Lcov.{count_lines, IsSection}
use Rattle.script_covered.proofs.lcov.lines_section.Given as goal

abbrev pub invariant-loop-line : goal.invariant-loop-line
invariant-loop-line l = IsSection (count_lines 0 (take l.line l.seen)) (flat_map option_to_list (take l.line l.seen)) l.section
