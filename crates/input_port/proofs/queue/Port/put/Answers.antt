use Rattle.std.proofs.Common.{◌≡◌, sym, ◌∙◌, arith, length-append}
use Rattle.input_port.specs.Queue.{signal_count}
use Rattle.input_port.proofs.Queues.{length-IsQueue, IsQueue-signal}
use Rattle.input_port.proofs.Rings.{held}
use Rattle.input_port.proofs.queue.Port.put.Goals as goal

pub push_in_room-requires : goal.push_in_room-requires
push_in_room-requires c =
    let room = λ (e : signal_count c.self.inside.items.items ≡ c.self.inside.capacity). c.if-signals-self.false (c.signals.ensures.value ∙ sym (λ i. signal_count (c.self.view_is i).items) ∙ e) in
    omega (arith, length-append c.self.inside.items.items, length-IsQueue (IsQueue-signal c.args.arrival c.self.invariant.0 room), c.self.invariant.1)

pub invariant_of-self : goal.invariant_of-self
invariant_of-self c =
    let room = λ (e : signal_count c.self.inside.items.items ≡ c.self.inside.capacity). c.if-signals-self.false (c.signals.ensures.value ∙ sym (λ i. signal_count (c.self.view_is i).items) ∙ e) in
    held c.push_in_room.ensures c.self.invariant.1 (IsQueue-signal c.args.arrival c.self.invariant.0 room)
