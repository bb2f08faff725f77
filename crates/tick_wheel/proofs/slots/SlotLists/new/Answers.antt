use Rattle.tick_wheel.proofs.Tables.{IsLinked-range, lists_of-range}
use Rattle.tick_wheel.proofs.slots.SlotLists.new.Goals as goal

pub returns : goal.returns
returns c = lists_of-range c.in_ok-next.next.items c.in_ok-next.ensures

pub invariant_of-result : goal.invariant_of-result
invariant_of-result c = IsLinked-range c.in_ok-next.next.items c.in_ok-previous.previous.items c.in_ok-next.ensures c.in_ok-previous.ensures
