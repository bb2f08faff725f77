use Rattle.std.proofs.Common.{◌<◌, length, sym, ◌∙◌, arith}
use Rattle.input_port.proofs.Rings.{turned_room, turned_one, turned_none}
use Rattle.input_port.proofs.queue.move_to_back.Goals.{in-Some, in_default}
use Rattle.input_port.proofs.queue.move_to_back.Goals as goal

pub push_in_room-requires : goal.push_in_room-requires
push_in_room-requires c =
    turned_room c.args.items.now.items c.loop-moved._moved c.args.items.now.capacity c.loop-moved.items c.pop_front.new.self (omega (arith, c.loop-moved-test.true, c.requires)) c.loop-moved.invariant c.pop_front.ensures.items (omega (arith, c.len-within.ensures.len, c.len-within.ensures.within.0))

pub loop-moved-preserved : goal.loop-moved-preserved
loop-moved-preserved c =
    let lt : c.loop-moved._moved < length c.args.items.now.items = omega (arith, c.loop-moved-test.true, c.requires) in
    elim c.match-pop_front.branch [
      | in-Some w ↦ rw w.items-is (turned_one c.args.items.now.items c.loop-moved._moved c.args.items.now.capacity c.loop-moved.items c.pop_front.new.self lt c.loop-moved.invariant c.pop_front.ensures.items w.in-Some.item w.push_in_room.new.items (sym c.pop_front.ensures.value ∙ w.in-Some.is) w.push_in_room.ensures)
      | in_default w ↦ absurd (turned_none c.args.items.now.items c.loop-moved._moved c.args.items.now.capacity c.loop-moved.items c.pop_front.new.self lt c.loop-moved.invariant c.pop_front.ensures.items (sym c.pop_front.ensures.value ∙ w.in_default.is))
    ]
