use Rattle.std.proofs.Common.{◌+◌, min, List, Option, ℕ, sym, ap, subst, ◌∙◌, arith}
use Rattle.std.specs.List.{IsDistinct}
use Rattle.std.specs.Ordering.{eq_by_cmp}
use Rattle.tick_wheel.specs.Sizes.{SLOTS}
use Rattle.tick_wheel.specs.Timers.{due, due_cmp, in_order}
use Rattle.tick_wheel.specs.Slots.{due_of, visited}
use Rattle.tick_wheel.specs.Turning.{near_count, MOST_LOOKED}
use Rattle.tick_wheel.proofs.SlotLemmas.{visited-distinct}
use Rattle.tick_wheel.proofs.Gathering.{visited-due, visited-count, due_of-distinct}
use Rattle.tick_wheel.proofs.Wheel.look.Goals as goal

pub returns-clause-due : goal.returns-clause-due
returns-clause-due c =
    let clock = c.self.inside.clock in
    let lists = c.self.inside.lists in
    ap in_order (c.gather_near-count.ensures.due ∙ ap (λ (table : List (Option ℕ)). due_of (clock + c.args.ticks) table (visited lists clock (min c.args.ticks SLOTS))) c.deref.ensures.value)
    ∙ visited-due clock c.self.inside.deadlines.items lists c.self.invariant.0 c.args.ticks
    ∙ (λ i. due (c.self.view_is i).deadlines ((c.self.view_is i).clock + c.args.ticks))

pub returns-clause-once : goal.returns-clause-once
returns-clause-once c =
    let clock = c.self.inside.clock in
    let lists = c.self.inside.lists in
    let table = c.self.inside.deadlines.items in
    subst (IsDistinct (eq_by_cmp due_cmp)) (sym (c.gather_near-count.ensures.due ∙ ap (λ (table : List (Option ℕ)). due_of (clock + c.args.ticks) table (visited lists clock (min c.args.ticks SLOTS))) c.deref.ensures.value))
    (due_of-distinct (clock + c.args.ticks) table (visited lists clock (min c.args.ticks SLOTS)) (visited-distinct clock table lists c.self.invariant.0 (min c.args.ticks SLOTS) (omega arith)))

pub returns-clause-looked : goal.returns-clause-looked
returns-clause-looked c =
    let clock = c.self.inside.clock in
    let lists = c.self.inside.lists in
    let table = c.self.inside.deadlines.items in
    let count = c.gather_near-count.ensures.count ∙ visited-count clock table lists c.self.invariant.0 c.args.ticks in
    c.saturating_add-self-inside.ensures
    ∙ ap (λ n. min (c.self.inside.looked + n) MOST_LOOKED) count
    ∙ (λ i. min ((c.self.view_is i).looked + near_count (c.self.view_is i).deadlines (c.self.view_is i).clock c.args.ticks) MOST_LOOKED)
