use Rattle.std.proofs.Common.{refl}
use Rattle.line_play.proofs.SetTelling.{tells_nothing, tells_more, tells_all}
use Rattle.line_play.proofs.set.state.tell_all.Goals as goal

pub loop-told-init : goal.loop-told-init
loop-told-init g c = tells_nothing _ _

pub loop-told-preserved : goal.loop-told-preserved
loop-told-preserved g c =
    tells_more c.args.tender.now c.loop-told.tender c.take_told.new.self (g.P.Reports.stand c.args.reports.now) (g.P.Reports.stand c.loop-told.reports) (g.P.Reports.stand c.tell_told.new.reports)
    c.in-Some.item c.now.result c.loop-told.invariant (record { reports = c.in-Some.ensures.some; news = c.in-Some.ensures.news; same = c.take_told.ensures.same }) c.now.ensures c.in_ok-tell_told-in-Some.ensures

pub returns-in-None : goal.returns-in-None
returns-in-None g c =
    tells_all c.args.tender.now c.loop-told.tender c.take_told.new.self (g.P.Reports.stand c.args.reports.now) (g.P.Reports.stand c.loop-told.reports)
    c.loop-told.invariant (c.in-None.ensures.none refl) (c.in-None.ensures.no_news refl) (c.in-None.ensures.left refl)
