use Rattle.std.proofs.Common.{ap, arith, length, length-append}
use Rattle.input_port.proofs.queue.copy_to.Goals as goal

pub push_in_room-requires : goal.push_in_room-requires
push_in_room-requires c =
    omega (
      arith,
      ap length c.loop-item.invariant.copied,
      length-append c.loop-item.copies.items c.loop-item.item-iterator,
      length-append c.args.copies.now.items c.args.items.now.items,
      ap length c.in-Some.ensures.steps,
      c.loop-item.invariant.capacity,
      c.requires,
    )
