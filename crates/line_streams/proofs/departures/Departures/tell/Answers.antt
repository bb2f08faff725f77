use Rattle.std.proofs.Common.{sym, subst}
use Rattle.line_streams.specs.Departing.{TellsOn}
use Rattle.line_streams.specs.declared.outlet.Outlet.{Outlet}
use Rattle.line_streams.proofs.departures.Departures.tell.Goals as goal

pub returns : goal.returns
returns c =
    let P : Outlet → Type 0 = λ o. TellsOn (record { wait = c.args.wait; octets = c.args.line.now }) c.args.self.now.outlet o in
    subst P (sym c.wake.ensures) c.in_ok-count.ensures.told
