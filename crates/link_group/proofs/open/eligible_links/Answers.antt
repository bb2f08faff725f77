use Rattle.std.proofs.Common.{rules, arith}
use Rattle.link_group.specs.Moving.{is_open}
use Rattle.link_group.proofs.Opening.{next_place, last_place}
use Rattle.link_group.proofs.open.eligible_links.Goals as goal

pub loop-at-preserved : goal.loop-at-preserved
loop-at-preserved c = (
  next_place (is_open c.args.failed c.args.outage) c.args.links.now c.loop-at.at c.index-links-at.result c.loop-at.able.items c.note.new.able.items _ c.is_open.result
      (search rules) c.index-links-at.is c.is_open.ensures c.note.ensures.items c.loop-at.invariant.0,
  omega (arith, c.note.ensures.len, c.loop-at.invariant.1),
)

pub returns : goal.returns
returns c = last_place c.args.failed c.args.outage c.args.links.now c.loop-at.at c.loop-at.able.items (search rules) c.loop-at.invariant.0
