use Rattle.std.proofs.Common.{◌+◌, ◌++◌, sym, ap, ◌∙◌, arith, get_or, length, length-append, []}
use Rattle.tick_wheel.specs.Slots.{due_of, visited}
use Rattle.tick_wheel.proofs.Gathering.{visited-more, more-few, due_of-few, due_of-append}
use Rattle.tick_wheel.proofs.look.gather_near.Goals as goal

pub gather-count-requires-clause-few : goal.gather-count-requires-clause-few
gather-count-requires-clause-few c =
    let room = more-few c.args.from c.args.table.now c.args.lists.now c.requires.wheel c.loop-step.step c.slot_of.result c.slot_of.ensures.value (omega arith) in
    omega (arith, room)

pub gather-count-requires-clause-room : goal.gather-count-requires-clause-room
gather-count-requires-clause-room c =
    let room = more-few c.args.from c.args.table.now c.args.lists.now c.requires.wheel c.loop-step.step c.slot_of.result c.slot_of.ensures.value (omega arith) in
    let few = due_of-few (c.args.from + c.args.ticks) c.args.table.now (visited c.args.lists.now c.args.from c.loop-step.step) in
    omega (arith, room, few, ap length c.loop-step.invariant.due, c.loop-step.invariant.capacity, c.requires.room)

pub overflow_add-count : goal.overflow_add-count
overflow_add-count c =
    let room = more-few c.args.from c.args.table.now c.args.lists.now c.requires.wheel c.loop-step.step c.slot_of.result c.slot_of.ensures.value (omega arith) in
    omega (arith, room, c.loop-step.invariant.count, c.gather-count.ensures.count)

pub loop-step-preserved : goal.loop-step-preserved
loop-step-preserved c =
    let clock = c.args.from + c.args.ticks in
    let before = visited c.args.lists.now c.args.from c.loop-step.step in
    let here = get_or c.args.lists.now c.slot_of.result [] in
    let more = visited-more c.args.lists.now c.args.from c.loop-step.step c.slot_of.result c.slot_of.ensures.value in
    record {
      within = omega arith;
      due =
          c.gather-count.ensures.due
          ∙ ap (λ ds. ds ++ due_of clock c.args.table.now here) c.loop-step.invariant.due
          ∙ sym (due_of-append clock c.args.table.now before here)
          ∙ ap (due_of clock c.args.table.now) (sym more);
      count = (let sum = length-append before here in let all = ap length more in omega (arith, sum, all, c.loop-step.invariant.count, c.gather-count.ensures.count));
      capacity = c.gather-count.ensures.capacity ∙ c.loop-step.invariant.capacity;
    }
