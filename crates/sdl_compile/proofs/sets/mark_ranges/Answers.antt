use Rattle.std.proofs.Common.{◌++◌}
use Rattle.sdl_compile.specs.Facts.{ranges_sets}
use Rattle.sdl_compile.proofs.Marking.{ranges_loop}
use Rattle.sdl_compile.proofs.sets.mark_ranges.Goals as goal

pub loop-range-preserved : goal.loop-range-preserved
loop-range-preserved c =
    ranges_loop c.args.set c.args.ranges.now c.loop-range._range-index c.loop-range.sets.items c.mark.new.sets.items (c.args.sets.now.items ++ ranges_sets c.args.set c.args.ranges.now)
    c.loop-range-test.true c.loop-range.invariant c.in_ok-mark.ensures
