use Rattle.std.proofs.Common.{◌≡◌, map, take}
use Rattle.sdl_rules.specs.declared.distinct.MarkedRow.{MarkedRow}
use Rattle.sdl_rules.proofs.distinct.mark_rows.Given as goal

abbrev pub invariant-loop-row : goal.invariant-loop-row
invariant-loop-row l = map (λ (m : MarkedRow). m.row.now) l.marked.items ≡ take l.row-index l.rows
