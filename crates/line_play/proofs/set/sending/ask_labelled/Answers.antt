use Rattle.std.proofs.Common.{sym}
use Rattle.line_play.specs.SetQueues.{is_taken}
use Rattle.line_play.proofs.SetSending.{moving_so, with_fault}
use Rattle.line_play.proofs.set.sending.ask_labelled.Goals as goal

pub returns-then-waits_to_move : goal.returns-then-waits_to_move
returns-then-waits_to_move c =
    moving_so _ c.args.patient _ c.args.label c.requires (c.waits_to_move.ensures.patient c.if-waits_to_move.true) (c.waits_to_move.ensures.there c.if-waits_to_move.true)

pub returns-in-Ok : goal.returns-in-Ok
returns-in-Ok c = is_taken (sym c.in-Ok.ensures.fault) c.in-Ok.ensures.ok

pub returns-in-Err : goal.returns-in-Err
returns-in-Err c = with_fault c.untaken.result _ c.args.patient _ _ c.in-Err.error c.in-Err.ensures.fault c.in-Err.ensures.err c.untaken.ensures
