use Rattle.script_ends.proofs.GroupRuns.{run_more, run_missed}
use Rattle.script_ends.proofs.player.GroupPlayer.run.Goals as goal

pub loop-said-preserved : goal.loop-said-preserved
loop-said-preserved g c p before first run =
    run_more p before c.args.commands.now c.loop-said.said-index c.said-item.result first _ _ _ c.loop-said-test.true c.said-item.is
    (c.in_ok-obey.ensures.goes c.if-not-branch.false p _ first (c.loop-said.invariant p before first run))

pub returns-then-not-branch-clause-missed : goal.returns-then-not-branch-clause-missed
returns-then-not-branch-clause-missed g c one p before first run =
    run_missed p before c.args.commands.now c.loop-said.said-index c.said-item.result first _ _ _ _ c.loop-said-test.true c.said-item.is
    (c.loop-said.invariant p before first run) (c.in_ok-obey.ensures.missed c.if-not-branch.true)
