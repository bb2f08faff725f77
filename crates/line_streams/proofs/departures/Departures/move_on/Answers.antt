use Rattle.std.proofs.Common.{sym, subst}
use Rattle.line_streams.specs.Departing.{MovesFar}
use Rattle.line_streams.specs.declared.outlet.Outlet.{Outlet}
use Rattle.line_streams.proofs.Ends.{far_on}
use Rattle.line_streams.proofs.departures.Departures.move_on.Goals as goal

pub returns : goal.returns
returns c =
    let P : Outlet → Type 0 = λ o. MovesFar c.args.self.now.outlet o in
    subst P (sym c.wake.ensures) (far_on _ _ _ c.has_failed.ensures.sent c.has_failed.ensures.backlog c.has_failed.ensures.lost c.shift.ensures)
