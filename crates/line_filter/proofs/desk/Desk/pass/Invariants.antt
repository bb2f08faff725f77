-- The octets so far were exchanged.
use Rattle.std.proofs.Common.{take}
use Rattle.line_filter.specs.Desks.{state_of}
use Rattle.line_filter.proofs.Passing.{Passed}
use Rattle.line_filter.proofs.desk.Desk.pass.Given as goal

abbrev pub invariant-loop-octet : goal.invariant-loop-octet
invariant-loop-octet g l =
    Passed g.T.LineTerminal.acts l.initial.self.count (state_of g.O.Orders.left l.initial.self) (take l.octet-index l.octets) l.initial.out.items l.out.items l.self.count
    (state_of g.O.Orders.left l.self) (g.P.Reports.stand l.initial.self.reports) (g.P.Reports.stand l.self.reports)
