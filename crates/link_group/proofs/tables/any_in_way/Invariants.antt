use Rattle.std.proofs.Common.{◌≡◌, false}
use Rattle.link_group.specs.Tables.{any_below, in_way}
use Rattle.link_group.proofs.tables.any_in_way.Given as goal

abbrev pub invariant-loop-selection : goal.invariant-loop-selection
invariant-loop-selection l = any_below (in_way l.links l.table.links l.able) l.selection ≡ false
