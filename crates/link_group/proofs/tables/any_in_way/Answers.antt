use Rattle.std.proofs.Common.{rules}
use Rattle.link_group.specs.Tables.{in_way}
use Rattle.link_group.proofs.Below.{any_none, any_found, any_more}
use Rattle.link_group.proofs.tables.any_in_way.Goals as goal

pub loop-selection-init : goal.loop-selection-init
loop-selection-init c = any_none (in_way c.args.links.now c.args.table.now.links c.args.able.now)

pub returns-then-in_way : goal.returns-then-in_way
returns-then-in_way c = any_found (in_way c.args.links.now c.args.table.now.links c.args.able.now) c.loop-selection.selection c.in_way.result (search rules) (search rules) c.in_way.ensures

pub loop-selection-preserved : goal.loop-selection-preserved
loop-selection-preserved c = any_more (in_way c.args.links.now c.args.table.now.links c.args.able.now) c.loop-selection.selection c.in_way.result (search rules) c.in_way.ensures c.loop-selection.invariant
