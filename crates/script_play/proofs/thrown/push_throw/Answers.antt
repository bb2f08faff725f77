use Rattle.script_play.proofs.Throwing.{throw_pieces}
use Rattle.script_play.proofs.thrown.push_throw.Goals as goal

pub returns : goal.returns
returns c =
    throw_pieces c.args.set.now c.args.throw.now _ _ _ _ _ _ _ _ _ c.in_ok-push_process.ensures c.in_ok-push.ensures.items c.in_ok-push_state.ensures
    c.in_ok-push-2.ensures.items c.in_ok-push_trigger.ensures c.in_ok-push-3.ensures.items c.in_ok-push_number.ensures c.in_ok-push-4.ensures.items
