use Rattle.std.proofs.Common.{rules, arith}
use Rattle.link_group.proofs.Live.{new_is, new_few, live_new}
use Rattle.link_group.proofs.group.Group.new.Goals as goal

pub invariant_of-result : goal.invariant_of-result
invariant_of-result c = (
  new_few c.args.own c.args.peer c.args.terminals.items c.all_fresh-links.result.items _ (search rules) (omega (arith, c.requires.few, c.args.terminals.ok.0)),
  search rules,
  search rules,
  live_new c.args.own c.args.peer c.args.terminals.items _ (new_is c.args.own c.args.peer c.args.terminals.items c.all_fresh-links.result.items _ _ c.table_of-table.result.links (search rules) (search rules) (search rules) (search rules))
      c.requires.unused,
)
