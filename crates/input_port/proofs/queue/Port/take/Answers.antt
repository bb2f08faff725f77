use Rattle.std.proofs.Common.{List, ap, ◌∙◌, IfSome, subst}
use Rattle.circular_buffer.specs.Buffer.{Buffer}
use Rattle.input_port.specs.declared.queue.Item.{Item}
use Rattle.input_port.specs.Saves.{saves}
use Rattle.input_port.specs.Queue.{first_unsaved, Takes}
use Rattle.input_port.proofs.Queues.{IsQueue-remove}
use Rattle.input_port.proofs.Places.{order_of}
use Rattle.input_port.proofs.Rings.{held}
use Rattle.input_port.proofs.queue.Port.take.Goals as goal

pub invariant_of-self : goal.invariant_of-self
invariant_of-self c = held c.take_at.ensures.rest c.self.invariant.1 (IsQueue-remove c.in_ok-place.place c.in_ok-place.ensures.in_range c.self.invariant.0)

pub returns-clause-item : goal.returns-clause-item
returns-clause-item c = c.take_at.ensures.item ∙ c.in_ok-place.ensures.found ∙ (λ i. first_unsaved (saves c.args.saved.now) (c.self.view_is i).items)

pub returns-clause-order : goal.returns-clause-order
returns-clause-order c =
    let saved = saves c.args.saved.now in
    let left = ap (λ (b : Buffer Item). b.items) c.take_at.ensures.rest ∙ c.in_ok-place.ensures.left in
    subst (λ (xs : List Item). IfSome c.take_at.result (λ item. Takes saved xs item c.take_at.new.items.items)) (λ i. (c.self.view_is i).items)
    (order_of saved c.self.inside.items.items c.take_at.new.items.items c.take_at.result (c.take_at.ensures.item ∙ c.in_ok-place.ensures.found) left)
