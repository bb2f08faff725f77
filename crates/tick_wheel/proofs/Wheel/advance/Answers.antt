use Rattle.std.proofs.Common.{◌+◌, sym, ap, subst, ◌∙◌}
use Rattle.tick_wheel.specs.Timers.{not_due, IsDue}
use Rattle.tick_wheel.specs.Turning.{Turning}
use Rattle.tick_wheel.specs.Slots.{without_all}
use Rattle.tick_wheel.proofs.DueLemmas.{in_order-from_sort, all_due}
use Rattle.tick_wheel.proofs.Keeping.{without_due, not_due-twice}
use Rattle.tick_wheel.proofs.Wheel.advance.Goals as goal

pub pass-requires-clause-none : goal.pass-requires-clause-none
pass-requires-clause-none c =
    let old = c.args.self.now in
    let clock = old.clock + c.args.ticks in
    let listed = in_order-from_sort c.look.new.self.due c.sort_due.new.self.due c.look.ensures.once c.sort_due.ensures.permutation c.sort_due.ensures.sorted ∙ c.look.ensures.due in
    let kept = ap (λ (t : Turning). t.deadlines) c.sort_due.ensures.rest ∙ c.look.ensures.deadlines in
    let left = ap (λ (t : Turning). t.deadlines) c.reset_due.ensures ∙ (λ i. without_all (listed i) (kept i)) ∙ without_due old.deadlines clock in
    let still = ap (λ (t : Turning). t.clock) c.reset_due.ensures ∙ ap (λ (t : Turning). t.clock) c.sort_due.ensures.rest ∙ c.look.ensures.clock in
    (λ i. not_due (left i) (still i + c.args.ticks)) ∙ not_due-twice old.deadlines clock ∙ sym left

pub returns-clause-due : goal.returns-clause-due
returns-clause-due c =
    let listed = in_order-from_sort c.look.new.self.due c.sort_due.new.self.due c.look.ensures.once c.sort_due.ensures.permutation c.sort_due.ensures.sorted ∙ c.look.ensures.due in
    ap (λ (t : Turning). t.due) c.pass.ensures ∙ ap (λ (t : Turning). t.due) c.reset_due.ensures ∙ listed

pub returns-clause-meaning : goal.returns-clause-meaning
returns-clause-meaning c =
    let old = c.args.self.now in
    let listed = in_order-from_sort c.look.new.self.due c.sort_due.new.self.due c.look.ensures.once c.sort_due.ensures.permutation c.sort_due.ensures.sorted ∙ c.look.ensures.due in
    subst (IsDue old.deadlines (old.clock + c.args.ticks)) (sym (ap (λ (t : Turning). t.due) c.pass.ensures ∙ ap (λ (t : Turning). t.due) c.reset_due.ensures ∙ listed)) (all_due old.deadlines (old.clock + c.args.ticks))

pub returns-clause-rest : goal.returns-clause-rest
returns-clause-rest c =
    let old = c.args.self.now in
    let listed = in_order-from_sort c.look.new.self.due c.sort_due.new.self.due c.look.ensures.once c.sort_due.ensures.permutation c.sort_due.ensures.sorted ∙ c.look.ensures.due in
    let kept = ap (λ (t : Turning). t.deadlines) c.sort_due.ensures.rest ∙ c.look.ensures.deadlines in
    ap (λ (t : Turning). t.deadlines) c.pass.ensures ∙ ap (λ (t : Turning). t.deadlines) c.reset_due.ensures
    ∙ (λ i. without_all (listed i) (kept i)) ∙ without_due old.deadlines (old.clock + c.args.ticks)
