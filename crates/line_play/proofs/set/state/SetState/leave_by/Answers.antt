use Rattle.std.proofs.Common.{◌≡◌, min, ◌+◌, ◌-◌, ◌^◌, arith}
use Rattle.line_play.specs.SetDoing.{stood}
use Rattle.line_play.specs.SetLeaving.{LINGER}
use Rattle.line_play.proofs.SetLeaving.{still_so, stops_so}
use Rattle.line_play.proofs.set.state.SetState.leave_by.Goals as goal

pub returns-then-goes_out : goal.returns-then-goes_out
returns-then-goes_out c = still_so (stood c.args.self.now) c.args.until _ c.requires c.goes_out.ensures c.if-goes_out.true

pub returns : goal.returns
returns c =
    let late : c.saturating_add-end.result ≡ min (2 ^ 64 - 1) (c.args.self.now.tender.ticks + LINGER) = omega (arith, c.saturating_add-end.ensures, c.now.ensures) in
    stops_so (stood c.args.self.now) c.stop_all.new.tender c.args.until _ _ c.requires c.goes_out.ensures c.if-goes_out.false late c.in_ok-stop_all.ensures
