use Rattle.std.proofs.Common.{sym, subst}
use Rattle.line_streams.specs.Departing.{TellsLost}
use Rattle.line_streams.specs.declared.outlet.Outlet.{Outlet}
use Rattle.line_streams.proofs.departures.Departures.tell_lost.Goals as goal

pub returns : goal.returns
returns c =
    let P : Outlet → Type 0 = λ o. TellsLost c.args.now c.shift.new.self.outlet o in
    record { middle = c.shift.new.self.outlet; moves = c.shift.ensures; tells = subst P (sym c.wake.ensures) c.in_ok-count.ensures.told }
