use Rattle.std.proofs.Common.{◌≡◌, map, take}
use Rattle.sdl_rules.specs.Distinct.{has_sender}
use Rattle.sdl_rules.specs.declared.distinct.MarkedRow.{MarkedRow}
use Rattle.sdl_rules.proofs.distinct.rows_with.Given as goal

abbrev pub invariant-loop-row : goal.invariant-loop-row
invariant-loop-row l = l.marks.items ≡ map (λ (m : MarkedRow). has_sender m.row.now.items l.sender) (take l.row-index l.rows)
