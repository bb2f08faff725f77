use Rattle.std.proofs.Common.{sym, ◌∙◌}
use Rattle.script_play.proofs.OutGoing.{goes_none, goes_more, goes_silent, goes_all}
use Rattle.script_play.proofs.captured_terminals.give_out.Goals as goal

pub loop-gone-init : goal.loop-gone-init
loop-gone-init g c = goes_none _ _ _ _ _ _

pub loop-gone-preserved : goal.loop-gone-preserved
loop-gone-preserved g c =
    goes_more c.args.at c.loop-gone.gone _ _ _ _ _ _ _ _ _ _ _ _ c.in-Some.unit _ _ _ (sym c.in_ok-unit.ensures.unit ∙ c.in-Some.is) c.in_ok-unit.ensures.goes
    c.in_ok-unit.ensures.printed c.in_ok-send-in-Some.ensures c.loop-gone.invariant

pub returns-in-None-clause-given : goal.returns-in-None-clause-given
returns-in-None-clause-given g c =
    (goes_silent c.args.at c.loop-gone.gone c.args.units _ _ _ _ _ _ _ _ _ _ _ _ _ c.loop-gone-test.true (sym c.in_ok-unit.ensures.unit ∙ c.in-None.is)
    c.in_ok-unit.ensures.goes c.in_ok-unit.ensures.printed c.loop-gone.invariant).given

pub returns-in-None-clause-captured : goal.returns-in-None-clause-captured
returns-in-None-clause-captured g c =
    (goes_silent c.args.at c.loop-gone.gone c.args.units _ _ _ _ _ _ _ _ _ _ _ _ _ c.loop-gone-test.true (sym c.in_ok-unit.ensures.unit ∙ c.in-None.is)
    c.in_ok-unit.ensures.goes c.in_ok-unit.ensures.printed c.loop-gone.invariant).captured

pub returns-clause-given : goal.returns-clause-given
returns-clause-given g c =
    (goes_all c.args.at c.loop-gone.gone c.args.units _ _ _ _ _ _ _ _ _ _ c.loop-gone.auto.gone-end c.loop-gone-test.false c.loop-gone.invariant).given

pub returns-clause-captured : goal.returns-clause-captured
returns-clause-captured g c =
    (goes_all c.args.at c.loop-gone.gone c.args.units _ _ _ _ _ _ _ _ _ _ c.loop-gone.auto.gone-end c.loop-gone-test.false c.loop-gone.invariant).captured
