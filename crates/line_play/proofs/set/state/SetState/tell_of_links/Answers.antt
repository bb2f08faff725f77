use Rattle.std.proofs.Common.{arith, rules}
use Rattle.line_filter.proofs.Reporting.{tells_none}
use Rattle.line_play.specs.SetDoing.{stood}
use Rattle.line_play.specs.SetOrders.{plain_set_order}
use Rattle.line_play.specs.SetShowing.{shown_of}
use Rattle.line_play.proofs.SetTelling.{links_more, links_all}
use Rattle.line_play.proofs.set.state.SetState.tell_of_links.Goals as goal

pub loop-link-init : goal.loop-link-init
loop-link-init g c = tells_none _

pub loop-link-preserved : goal.loop-link-preserved
loop-link-preserved g c =
    links_more (shown_of (plain_set_order c.args.order.now) (stood c.args.self.now)) c.args.links.now c.loop-link.link-index _ (g.P.Reports.stand c.args.reports.now)
    (g.P.Reports.stand c.loop-link.reports) (g.P.Reports.stand c.tell_one_asked.new.reports) c.loop-link-test.true (search rules) c.loop-link.invariant c.in_ok-tell_one_asked.ensures

pub returns : goal.returns
returns g c =
    links_all (shown_of (plain_set_order c.args.order.now) (stood c.args.self.now)) c.args.links.now c.loop-link.link-index _ _ (omega (arith, c.loop-link-test.false)) c.loop-link.invariant
