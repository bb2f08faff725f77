use Rattle.std.proofs.Common.{◌≡◌, ◌+◌, arith, sym, append-nil}
use Rattle.line_play.specs.SetExposing.{sample_at}
use Rattle.line_play.specs.SetSeries.{plain_series}
use Rattle.line_play.proofs.SetExposing.{links_more, links_all}
use Rattle.line_play.proofs.set.state.SetState.put_series.Goals as goal

pub loop-link-init : goal.loop-link-init
loop-link-init c = sym (append-nil _)

pub loop-link-preserved : goal.loop-link-preserved
loop-link-preserved c =
    links_more (sample_at (plain_series c.args.series) c.args.self.now.tender) _ _ _ c.loop-link.link (c.loop-link.link + 1) (omega arith) c.loop-link.invariant c.in_ok-put_sample.ensures

pub returns : goal.returns
returns c =
    let all : c.loop-link.link ≡ c.args.self.now.tender.plan.links = omega (arith, c.len-link-end.ensures) in
    links_all (sample_at (plain_series c.args.series) c.args.self.now.tender) _ _ _ _ c.loop-link.link c.args.self.now.tender.plan.links all c.in_ok-put_head_of.ensures c.loop-link.invariant
