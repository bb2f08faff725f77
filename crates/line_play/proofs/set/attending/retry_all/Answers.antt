use Rattle.std.proofs.Common.{arith, sym, ◌∙◌}
use Rattle.line_play.specs.SetDoing.{stood}
use Rattle.line_play.specs.SetQueues.{waiting_in}
use Rattle.line_play.proofs.SetQueues.{retried_none, retried_more, retried_all}
use Rattle.line_play.proofs.set.attending.retry_all.Goals as goal

pub loop-place-init : goal.loop-place-init
loop-place-init g c = retried_none _ _ _

pub loop-place-preserved : goal.loop-place-preserved
loop-place-preserved g c =
    retried_more (waiting_in c.args.queue.now) (stood c.args.state.now) c.loop-place._place _ _ _ _ _ _ (g.P.Reports.stand c.args.reports.now) (g.P.Reports.stand c.loop-place.reports)
    (g.P.Reports.stand c.retry_first.new.reports) (omega (arith, c.len-place-end.ensures)) c.loop-place.invariant c.in_ok-retry_first.ensures

pub returns : goal.returns
returns g c =
    retried_all (waiting_in c.args.queue.now) _ c.loop-place._place _ _ _ _ _ (omega (arith, c.len-place-end.ensures)) c.loop-place.invariant

pub retry_first-requires : goal.retry_first-requires
retry_first-requires g c = c.loop-place.invariant.count
