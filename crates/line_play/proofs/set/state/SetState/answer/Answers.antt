use Rattle.line_play.specs.SetDoing.{stood}
use Rattle.line_play.specs.SetOrders.{plain_set_order}
use Rattle.line_play.proofs.SetObeying.{answered_so}
use Rattle.line_play.proofs.set.state.SetState.answer.Goals as goal

pub returns : goal.returns
returns g c =
    answered_so c.tell_asked.result (plain_set_order c.args.order.now) c.args.links.now (stood c.args.self.now) _ _ _ _ c.in_ok-agree.ensures c.tell_asked.ensures
