use Rattle.std.proofs.lemmas.Result.{on_ok_weaker}
use Rattle.line_tending.specs.Rounds.{Adds}
use Rattle.line_tending.proofs.Doing.{adds_nothing, adds_then, tends_in_steps}
use Rattle.line_tending.proofs.tended_set.TendedSet.tend.Goals as goal

pub loop-link-init : goal.loop-link-init
loop-link-init c = adds_nothing _

pub loop-link-preserved : goal.loop-link-preserved
loop-link-preserved c = adds_then _ _ _ c.loop-link.invariant c.in_ok-tend_link.ensures

pub returns : goal.returns
returns c =
    on_ok_weaker c.tell_shared.result
    (λ (adds : Adds c.share.new.self c.tell_shared.new.self).
    tends_in_steps c.args.self.now c.heed_all.new.self c.loop-link.self c.restart.new.self c.share.new.self c.tell_shared.new.self c.in_ok-heed_all.ensures c.loop-link.invariant
    c.restart.ensures c.in_ok-share.ensures adds)
    c.tell_shared.ensures
