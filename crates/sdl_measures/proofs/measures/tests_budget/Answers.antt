use Rattle.std.proofs.Common.{arith}
use Rattle.sdl_measures.proofs.Measuring.{tests_more_by}
use Rattle.sdl_measures.proofs.measures.tests_budget.Goals as goal

pub loop-range-preserved : goal.loop-range-preserved
loop-range-preserved c = λ b o bs os.
    let ranges = c.args.ranges.now in
    let i = c.loop-range._range-index in
    let before = c.loop-range.invariant b o bs os in
    omega (arith, bs, before, c.max.ensures, c.saturating_add-most.ensures, tests_more_by ranges i b o c.loop-range-test.true)
