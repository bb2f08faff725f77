use Rattle.std.proofs.Common.{arith, ◌≡◌}
use Rattle.line_play.specs.SetDoing.{stood}
use Rattle.line_play.proofs.SetTelling.{held_none, held_more, held_all}
use Rattle.line_play.proofs.set.state.SetState.tell_all_held.Goals as goal

pub loop-link-init : goal.loop-link-init
loop-link-init g c = held_none (stood c.args.self.now) _

pub loop-link-preserved : goal.loop-link-preserved
loop-link-preserved g c =
    held_more (stood c.args.self.now) c.loop-link.link (g.P.Reports.stand c.args.reports.now) (g.P.Reports.stand c.loop-link.reports) (g.P.Reports.stand c.tell_held.new.reports)
    c.loop-link.invariant c.in_ok-tell_held.ensures

pub returns : goal.returns
returns g c =
    let all : c.loop-link.link ≡ c.args.self.now.tender.plan.links = omega (arith, c.len-link-end.ensures) in
    held_all (stood c.args.self.now) c.loop-link.link c.args.self.now.tender.plan.links _ _ all c.loop-link.invariant
