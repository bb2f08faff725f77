use Rattle.std.proofs.Common.{ap, ◌∙◌, arith, rules}
use Rattle.tick_wheel.specs.Table.{deadlines_of, PLACES}
use Rattle.tick_wheel.proofs.TableLemmas.{deadlines_of-none}
use Rattle.tick_wheel.proofs.Keeping.{IsWheel-new}
use Rattle.tick_wheel.proofs.Wheel.new.Goals as goal

pub returns-clause-deadlines : goal.returns-clause-deadlines
returns-clause-deadlines c =
    let table = c.in_ok-deadlines.ensures.items_if_clones_equal (λ y h. search rules) in
    ap deadlines_of table ∙ deadlines_of-none PLACES

pub invariant_of-result : goal.invariant_of-result
invariant_of-result c =
    let table = c.in_ok-deadlines.ensures.items_if_clones_equal (λ y h. search rules) in
    (IsWheel-new c.in_ok-deadlines.deadlines.items c.in_ok-lists.lists table c.in_ok-lists.ensures, omega (arith, c.in_ok-due.ensures.exact))
