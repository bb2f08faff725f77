use Rattle.std.proofs.Common.{refl, ◌∙◌, arith}
use Rattle.script_play.proofs.SetOutGoing.{set_none, set_more, set_silent, set_all}
use Rattle.script_play.proofs.captured_groups.give_out.Goals as goal

pub loop-gone-init : goal.loop-gone-init
loop-gone-init g c = (set_none c.args.player.now.on c.args.at _ _ _ c.args.player.now.group c.args.link.now, refl)

pub loop-gone-preserved : goal.loop-gone-preserved
loop-gone-preserved g c =
    let next = c.in_ok-unit.ensures in (
      set_more c.args.player.now.on c.args.at c.loop-gone.gone _ _ _ _ _ _ _ _ _ _ _ _ _ _ _ c.in-Some.unit _ _ _ c.loop-gone.invariant.1 (omega (arith, c.requires.few))
          c.in-Some.is next.sent next.printed c.in_ok-send-in-Some.ensures c.loop-gone.invariant.0,
      next.on ∙ c.loop-gone.invariant.1,
    )

pub returns-in-None-clause-given : goal.returns-in-None-clause-given
returns-in-None-clause-given g c =
    let next = c.in_ok-unit.ensures in
    (set_silent c.args.player.now.on c.args.at c.loop-gone.gone c.args.units _ _ _ _ _ _ _ _ _ _ _ _ _ _ _ c.requires.there c.loop-gone-test.true
    c.loop-gone.invariant.1 c.in-None.is next.sent next.printed c.loop-gone.invariant.0).given

pub returns-in-None-clause-captured : goal.returns-in-None-clause-captured
returns-in-None-clause-captured g c =
    let next = c.in_ok-unit.ensures in
    (set_silent c.args.player.now.on c.args.at c.loop-gone.gone c.args.units _ _ _ _ _ _ _ _ _ _ _ _ _ _ _ c.requires.there c.loop-gone-test.true
    c.loop-gone.invariant.1 c.in-None.is next.sent next.printed c.loop-gone.invariant.0).captured

pub returns-in-None-clause-on : goal.returns-in-None-clause-on
returns-in-None-clause-on g c = c.in_ok-unit.ensures.on ∙ c.loop-gone.invariant.1

pub returns-clause-given : goal.returns-clause-given
returns-clause-given g c =
    (set_all c.args.player.now.on c.args.at c.loop-gone.gone c.args.units _ _ _ _ _ _ _ _ _ _ c.requires.there c.loop-gone.auto.gone-end c.loop-gone-test.false
    c.loop-gone.invariant.0).given

pub returns-clause-captured : goal.returns-clause-captured
returns-clause-captured g c =
    (set_all c.args.player.now.on c.args.at c.loop-gone.gone c.args.units _ _ _ _ _ _ _ _ _ _ c.requires.there c.loop-gone.auto.gone-end c.loop-gone-test.false
    c.loop-gone.invariant.0).captured

pub returns-clause-on : goal.returns-clause-on
returns-clause-on g c = c.loop-gone.invariant.1
