use Rattle.std.proofs.Common.{rules}
use Rattle.link_group.specs.Moving.{division}
use Rattle.link_group.proofs.Diversions.{moves_on, stop_fault, stop_at, end_fault, end_at}
use Rattle.link_group.proofs.moving.share_all.Goals as goal

pub returns-in-Err-clause-fault : goal.returns-in-Err-clause-fault
returns-in-Err-clause-fault c =
    stop_fault c.args.able.now c.loop-selection.selection c.in-Err.fault (division c.loop-selection.links c.loop-selection.table.links c.loop-selection.messages.items) _
    (search rules) c.in-Err.ensures.fault c.loop-selection.invariant.0

pub returns-in-Err-clause-moved : goal.returns-in-Err-clause-moved
returns-in-Err-clause-moved c =
    stop_at c.args.able.now c.loop-selection.selection c.in-Err.fault (division c.loop-selection.links c.loop-selection.table.links c.loop-selection.messages.items) _ _
    (search rules) c.in-Err.ensures.fault c.in-Err.ensures.err c.loop-selection.invariant.0

pub loop-selection-preserved : goal.loop-selection-preserved
loop-selection-preserved c = (
  moves_on c.args.able.now c.loop-selection.selection (division c.loop-selection.links c.loop-selection.table.links c.loop-selection.messages.items) _ _
      (search rules) c.in-Ok.ensures.fault c.in-Ok.ensures.moved c.loop-selection.invariant.0,
  c.share_one.ensures.whole,
)

pub returns-clause-fault : goal.returns-clause-fault
returns-clause-fault c =
    end_fault c.args.able.now c.loop-selection.selection (division c.loop-selection.links c.loop-selection.table.links c.loop-selection.messages.items) _
    (search rules) c.loop-selection.invariant.0

pub returns-clause-moved : goal.returns-clause-moved
returns-clause-moved c =
    end_at c.args.able.now c.loop-selection.selection (division c.loop-selection.links c.loop-selection.table.links c.loop-selection.messages.items) _
    (search rules) c.loop-selection.invariant.0
