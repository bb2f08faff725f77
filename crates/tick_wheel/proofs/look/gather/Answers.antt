use Rattle.std.proofs.Common.{◌++◌, sym, ap, ◌∙◌, arith, get_or, [], None}
use Rattle.tick_wheel.specs.Slots.{due_before}
use Rattle.tick_wheel.proofs.Lists.{held, within, none-left}
use Rattle.tick_wheel.proofs.Gathering.{room-left, gathered-more, gathered-all}
use Rattle.tick_wheel.proofs.look.gather.Goals as goal

pub bounds-table-from : goal.bounds-table-from
bounds-table-from c =
    let items = get_or c.args.lists.now c.args.slot [] in
    let low = c.requires.places c.in-Some.place (held items c.loop-here.count c.in-Some.place (sym c.loop-here.invariant.place ∙ c.in-Some.is)) in
    omega (arith, low, c.from.ensures, c.requires.table)

pub append_due-requires-clause-place : goal.append_due-requires-clause-place
append_due-requires-clause-place c =
    let items = get_or c.args.lists.now c.args.slot [] in
    c.requires.places c.in-Some.place (held items c.loop-here.count c.in-Some.place (sym c.loop-here.invariant.place ∙ c.in-Some.is))

pub append_due-requires-clause-room : goal.append_due-requires-clause-room
append_due-requires-clause-room c =
    let items = get_or c.args.lists.now c.args.slot [] in
    let more = within items c.loop-here.count c.in-Some.place (sym c.loop-here.invariant.place ∙ c.in-Some.is) in
    room-left c.args.due.now.items c.loop-here.due.items c.args.clock c.args.table.now items c.loop-here.count _ c.loop-here.invariant.due more (omega (arith, c.requires.room, c.loop-here.invariant.capacity))

pub after-here-requires : goal.after-here-requires
after-here-requires c =
    let items = get_or c.args.lists.now c.args.slot [] in
    c.requires.places c.in-Some.place (held items c.loop-here.count c.in-Some.place (sym c.loop-here.invariant.place ∙ c.in-Some.is))

pub loop-here-smaller : goal.loop-here-smaller
loop-here-smaller c =
    let items = get_or c.args.lists.now c.args.slot [] in
    let more = within items c.loop-here.count c.in-Some.place (sym c.loop-here.invariant.place ∙ c.in-Some.is) in
    omega (arith, more)

pub loop-here-preserved : goal.loop-here-preserved
loop-here-preserved c =
    let items = get_or c.args.lists.now c.args.slot [] in
    let here = sym c.loop-here.invariant.place ∙ c.in-Some.is in
    let more = within items c.loop-here.count c.in-Some.place here in
    record {
      place = c.after-here.ensures c.args.slot c.loop-here.count here;
      within = omega (arith, more);
      due =
          c.append_due.ensures.due
          ∙ ap (λ q. c.loop-here.due.items ++ due_before c.args.clock c.in-Some.place (get_or c.args.table.now q None) []) c.from.ensures
          ∙ gathered-more c.args.due.now.items c.loop-here.due.items c.args.clock c.args.table.now items c.loop-here.count c.in-Some.place c.loop-here.invariant.due here;
      capacity = c.append_due.ensures.capacity ∙ c.loop-here.invariant.capacity;
    }

pub returns-clause-due : goal.returns-clause-due
returns-clause-due c =
    let items = get_or c.args.lists.now c.args.slot [] in
    gathered-all c.args.due.now.items c.loop-here.due.items c.args.clock c.args.table.now items c.loop-here.count c.loop-here.invariant.due (sym c.loop-here.invariant.place ∙ c.in_default.is)

pub returns-clause-count : goal.returns-clause-count
returns-clause-count c =
    let items = get_or c.args.lists.now c.args.slot [] in
    let all = none-left items c.loop-here.count (sym c.loop-here.invariant.place ∙ c.in_default.is) in
    omega (arith, all, c.loop-here.invariant.within)
