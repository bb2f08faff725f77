use Rattle.std.proofs.Common.{◌∙◌, arith, length-append}
use Rattle.input_port.specs.Queue.{has_timer}
use Rattle.input_port.proofs.Queues.{length-IsQueue, IsQueue-timer}
use Rattle.input_port.proofs.Rings.{held}
use Rattle.input_port.proofs.queue.Port.put_timer.Goals as goal

pub push_in_room-requires : goal.push_in_room-requires
push_in_room-requires c =
    let absent = (λ i. has_timer (c.self.view_is i).items c.args.timer.0) ∙ c.requires.absent in
    omega (arith, length-append c.self.inside.items.items, length-IsQueue (IsQueue-timer c.args.timer c.self.invariant.0 c.requires.number absent), c.self.invariant.1)

pub invariant_of-self : goal.invariant_of-self
invariant_of-self c =
    let absent = (λ i. has_timer (c.self.view_is i).items c.args.timer.0) ∙ c.requires.absent in
    held c.push_in_room.ensures c.self.invariant.1 (IsQueue-timer c.args.timer c.self.invariant.0 c.requires.number absent)
