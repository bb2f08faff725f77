use Rattle.std.proofs.Common.{◌≡◌, ◌∙◌, ℕ, List, Some, ap, sym, string_bytes}
use Rattle.line_play.specs.SetDoing.{stood}
use Rattle.line_play.specs.SetGiven.{plain_said}
use Rattle.line_play.specs.SetOrders.{plain_set_order, send}
use Rattle.line_play.proofs.SetObeying.{quiet}
use Rattle.line_play.proofs.SetQueues.{takes_obeyed, takes_send}
use Rattle.line_play.proofs.set.attending.take_said.Goals as goal

pub returns-in-Send : goal.returns-in-Send
returns-in-Send g c =
    let says : Some (plain_set_order c.args.said.now.order) ≡ Some (send c.as_slice.result.now) =
    ap (λ o. Some (plain_set_order o)) c.in-Send.is ∙ ap (λ (xs : List ℕ). Some (send xs)) (sym c.as_slice.ensures.value) in
    takes_send c.take_octets.result (string_bytes c.args.text) c.as_slice.result.now (Some (plain_said c.args.said.now)) (stood c.args.state.now)
    (stood c.take_octets.new.state) _ _ _ _ says c.take_octets.ensures

pub obey_other-requires : goal.obey_other-requires
obey_other-requires g c = quiet c.args.said.now.order c.in_default.not-Send

pub returns-in_default : goal.returns-in_default
returns-in_default g c =
    rw (← c.as_str.ensures.value)
    (takes_obeyed c.obey_other.result _ (Some (plain_said c.args.said.now)) (stood c.args.state.now) (stood c.obey_other.new.self) _ _ _ c.obey_other.ensures)
