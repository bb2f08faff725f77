use Rattle.std.proofs.Common.{sym, ◌∙◌}
use Rattle.input_port.specs.Queue.{is_of_timer}
use Rattle.input_port.proofs.Queues.{IsQueue-without}
use Rattle.input_port.proofs.Rings.{held, all_stay}
use Rattle.input_port.proofs.queue.Port.drop_timer.Goals as goal

pub invariant_of-self : goal.invariant_of-self
invariant_of-self c = held c.remove_timer.ensures c.self.invariant.1 (IsQueue-without c.args.timer.0 c.self.invariant.0)

pub returns-else-has_timer : goal.returns-else-has_timer
returns-else-has_timer c =
    let same = all_stay (is_of_timer c.args.timer.0) c.args.self.now.items (sym c.has_timer.ensures ∙ c.if-has_timer.false) in
    λ i. record { capacity = c.args.self.now.capacity; items = sym same i }
