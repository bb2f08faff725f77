use Rattle.std.proofs.Common.{◌∙◌, ◌≡◌, List, sym, ap, subst}
use Rattle.link_group.specs.Lines.{ByCommand}
use Rattle.line_tending.specs.Orders.{after_order}
use Rattle.line_tending.specs.Tended.{Tended}
use Rattle.line_tending.specs.declared.ordered.Ordered.{Ordered}
use Rattle.line_tending.proofs.Doing.{adds_of, adds_orders, orders_of}
use Rattle.line_tending.proofs.Reading.{noted_same, noted_after}
use Rattle.line_tending.proofs.tended_set.TendedSet.carry_out.Goals as goal

pub returns-in-Err-clause-adds : goal.returns-in-Err-clause-adds
returns-in-Err-clause-adds c = orders_of c.args.self.now c.give_or_put_off.new.self c.give_or_put_off.ensures.adds

pub returns-in-Err-clause-kept : goal.returns-in-Err-clause-kept
returns-in-Err-clause-kept c = (adds_of _ _ c.give_or_put_off.ensures.adds).ordered

pub returns-in-Ok-clause-adds : goal.returns-in-Ok-clause-adds
returns-in-Ok-clause-adds c = adds_orders _ _ _ c.give_or_put_off.ensures.adds (noted_same _ _ _ _ c.keep.ensures c.note_order.ensures)

pub returns-in-Ok-clause-given : goal.returns-in-Ok-clause-given
returns-in-Ok-clause-given c = λ free.
    subst (λ (t : Tended). ByCommand c.args.command c.args.link c.args.self.now.set t.set) (sym (noted_same _ _ _ _ c.keep.ensures c.note_order.ensures))
    (c.in-Ok.ensures.given free)

pub returns-in-Ok-clause-put_off : goal.returns-in-Ok-clause-put_off
returns-in-Ok-clause-put_off c = λ later.
    noted_same _ _ _ _ c.keep.ensures c.note_order.ensures
    ∙ ap (λ (t : Tended). record t { ordered = c.note_order.new.self.ordered }) (c.in-Ok.ensures.put_off later)

pub returns-in-Ok-clause-ordered : goal.returns-in-Ok-clause-ordered
returns-in-Ok-clause-ordered c =
    noted_after c.args.self.now c.give_or_put_off.new.self c.keep.new.self c.note_order.new.self c.args.link c.args.command (adds_of _ _ c.give_or_put_off.ensures.adds).ordered c.keep.ensures c.note_order.ensures

pub returns-in-Err-clause-err : goal.returns-in-Err-clause-err
returns-in-Err-clause-err c = c.in-Err.ensures.err
