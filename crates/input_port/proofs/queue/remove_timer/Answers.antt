use Rattle.std.proofs.Common.{◌<◌, length, not, sym, ap, ◌∙◌, arith}
use Rattle.circular_buffer.specs.Buffer.{buffer}
use Rattle.input_port.proofs.Rings.{stays_beside, kept_room, kept_one, gone_one, kept_none, all_kept}
use Rattle.input_port.proofs.queue.remove_timer.Goals.{in-Some+then-not-is_of_timer, in-Some+else-not-is_of_timer, in_default}
use Rattle.input_port.proofs.queue.remove_timer.Goals as goal

pub push_in_room-requires : goal.push_in_room-requires
push_in_room-requires c =
    kept_room c.args.items.now.items c.loop-moved._moved c.args.items.now.capacity c.loop-moved.items c.pop_front.new.self (stays_beside c.args.timer.0) (omega (arith, c.loop-moved-test.true, c.len-moved-end.ensures.len)) c.loop-moved.invariant c.pop_front.ensures.items
    (omega (arith, c.len-moved-end.ensures.len, c.len-moved-end.ensures.within.0))

pub loop-moved-preserved : goal.loop-moved-preserved
loop-moved-preserved c =
    let lt : c.loop-moved._moved < length c.args.items.now.items = omega (arith, c.loop-moved-test.true, c.len-moved-end.ensures.len) in
    elim c.match-pop_front.branch [
      | in-Some+then-not-is_of_timer w ↦
          rw w.items-is (
          kept_one c.args.items.now.items c.loop-moved._moved c.args.items.now.capacity c.loop-moved.items c.pop_front.new.self (stays_beside c.args.timer.0) lt c.loop-moved.invariant c.pop_front.ensures.items w.in-Some.item w.push_in_room.new.items (sym c.pop_front.ensures.value ∙ w.in-Some.is)
          (ap not (sym w.is_of_timer.ensures ∙ w.if-not-is_of_timer.true)) w.push_in_room.ensures
          )
      | in-Some+else-not-is_of_timer w ↦
          rw w.items-is (
          gone_one c.args.items.now.items c.loop-moved._moved c.args.items.now.capacity c.loop-moved.items c.pop_front.new.self (stays_beside c.args.timer.0) lt c.loop-moved.invariant c.pop_front.ensures.items w.in-Some.item (sym c.pop_front.ensures.value ∙ w.in-Some.is)
          (ap not (sym w.is_of_timer.ensures ∙ w.if-not-is_of_timer.false))
          )
      | in_default w ↦ absurd (kept_none c.args.items.now.items c.loop-moved._moved c.args.items.now.capacity c.loop-moved.items c.pop_front.new.self (stays_beside c.args.timer.0) lt c.loop-moved.invariant c.pop_front.ensures.items (sym c.pop_front.ensures.value ∙ w.in_default.is))
    ]

pub returns : goal.returns
returns c =
    c.loop-moved.invariant
    ∙ ap (λ items. buffer items c.args.items.now.capacity) (all_kept (stays_beside c.args.timer.0) c.args.items.now.items c.loop-moved._moved (omega (arith, c.loop-moved-test.false, c.len-moved-end.ensures.len)))
