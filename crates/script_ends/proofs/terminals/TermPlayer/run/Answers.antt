use Rattle.script_ends.proofs.TermRuns.{run_more, run_missed}
use Rattle.script_ends.proofs.terminals.TermPlayer.run.Goals as goal

pub loop-said-preserved : goal.loop-said-preserved
loop-said-preserved g c t before first run =
    run_more c.args.keeps t before c.args.commands.now c.loop-said.said-index c.said-item.result first _ _ _ c.loop-said-test.true c.said-item.is
    (c.in_ok-obey.ensures.goes c.if-not-branch.false t _ first (c.loop-said.invariant t before first run))

pub returns-then-not-branch-clause-missed : goal.returns-then-not-branch-clause-missed
returns-then-not-branch-clause-missed g c one t before first run =
    run_missed c.args.keeps t before c.args.commands.now c.loop-said.said-index c.said-item.result first _ _ _ _ c.loop-said-test.true c.said-item.is
    (c.loop-said.invariant t before first run) (c.in_ok-obey.ensures.missed c.if-not-branch.true)
