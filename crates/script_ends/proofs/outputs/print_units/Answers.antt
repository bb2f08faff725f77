use Rattle.script_ends.proofs.GroupRuns.{none_gone, one_more_gone, silent_now, all_gone, there_gone}
use Rattle.script_ends.proofs.outputs.print_units.Goals as goal

pub loop-gone-init : goal.loop-gone-init
loop-gone-init g c = record { there = c.requires; so_far = none_gone c.args.link _ _ _ }

pub loop-gone-preserved : goal.loop-gone-preserved
loop-gone-preserved g c = record {
  there = there_gone c.args.link _ _ _ _ _ _ _ c.in_ok-print_unit.ensures;
  so_far =
      one_more_gone c.args.link c.loop-gone.gone _ _ _ _ _ _ _ _ _ _ c.if-not-branch.false c.in_ok-print_unit.ensures
      c.loop-gone.invariant.so_far;
}

pub returns-then-not-branch : goal.returns-then-not-branch
returns-then-not-branch g c =
    silent_now c.args.link c.loop-gone.gone _ _ _ _ _ _ _ _ _ _ _ c.loop-gone-test.true c.if-not-branch.true c.in_ok-print_unit.ensures
    c.loop-gone.invariant.so_far

pub returns : goal.returns
returns g c = all_gone c.args.link c.loop-gone.gone _ _ _ _ _ _ _ c.loop-gone.auto.gone-end c.loop-gone-test.false c.loop-gone.invariant.so_far
