use Rattle.std.proofs.Common.{refl, sym, arith, ◌∙◌, ◌≡◌, ◌+◌}
use Rattle.line_play.proofs.SetLeaving.{none_more, none_among, some_among}
use Rattle.line_play.proofs.set.leaving.any_keeps.Goals as goal

pub loop-link-init : goal.loop-link-init
loop-link-init c = refl

pub loop-link-preserved : goal.loop-link-preserved
loop-link-preserved c =
    none_more c.args.tender.now c.loop-link.link (c.loop-link.link + 1) (omega arith) c.loop-link.invariant (sym c.keeps_some.ensures ∙ c.if-keeps_some.false)

pub returns-then-keeps_some : goal.returns-then-keeps_some
returns-then-keeps_some c =
    sym (some_among c.args.tender.now c.loop-link.link c.len-link-end.result c.args.tender.now.plan.links c.loop-link-test.true c.len-link-end.ensures
    (sym c.keeps_some.ensures ∙ c.if-keeps_some.true))

pub returns : goal.returns
returns c =
    let all : c.loop-link.link ≡ c.args.tender.now.plan.links = omega (arith, c.len-link-end.ensures) in
    sym (none_among c.args.tender.now c.loop-link.link c.args.tender.now.plan.links all c.loop-link.invariant)
