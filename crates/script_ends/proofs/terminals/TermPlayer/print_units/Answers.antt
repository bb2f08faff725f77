use Rattle.script_ends.proofs.TermRuns.{gives_none, gives_more, gives_silent, gives_all}
use Rattle.script_ends.proofs.terminals.TermPlayer.print_units.Goals as goal

pub loop-gone-init : goal.loop-gone-init
loop-gone-init g c = gives_none _ _ _

pub loop-gone-preserved : goal.loop-gone-preserved
loop-gone-preserved g c =
    gives_more c.loop-gone.gone _ _ _ _ _ _ _ _ _ _ c.if-not-branch.false c.in_ok-print_unit.ensures.unit c.in_ok-print_unit.ensures.goes
    c.in_ok-print_unit.ensures.printed c.loop-gone.invariant

pub returns-then-not-branch : goal.returns-then-not-branch
returns-then-not-branch g c =
    gives_silent c.loop-gone.gone _ _ _ _ _ _ _ _ _ _ _ c.loop-gone-test.true c.if-not-branch.true c.in_ok-print_unit.ensures.unit
    c.in_ok-print_unit.ensures.goes c.in_ok-print_unit.ensures.printed c.loop-gone.invariant

pub returns : goal.returns
returns g c = gives_all c.loop-gone.gone _ _ _ _ _ _ _ c.loop-gone.auto.gone-end c.loop-gone-test.false c.loop-gone.invariant
