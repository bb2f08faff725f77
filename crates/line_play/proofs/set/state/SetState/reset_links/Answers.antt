use Rattle.std.proofs.Common.{arith, rules}
use Rattle.line_play.specs.SetDoing.{stood, none_reset}
use Rattle.line_play.proofs.SetDoing.{reset_more, reset_all}
use Rattle.line_play.proofs.set.state.SetState.reset_links.Goals as goal

pub loop-link-init : goal.loop-link-init
loop-link-init c = none_reset

pub loop-link-preserved : goal.loop-link-preserved
loop-link-preserved c =
    reset_more (stood c.args.self.now) c.args.links.now c.loop-link.link-index _ _ _ c.loop-link-test.true (search rules) c.loop-link.invariant c.reset.ensures

pub returns : goal.returns
returns c = reset_all _ c.args.links.now c.loop-link.link-index _ (omega (arith, c.loop-link-test.false)) c.loop-link.invariant
