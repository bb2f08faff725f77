-- The orders obeyed so far.
use Rattle.std.proofs.Common.{◌≡◌}
use Rattle.line_filter.specs.Runs.{ObeysDue}
use Rattle.line_filter.specs.Desks.{Told}
use Rattle.line_filter.proofs.desk.Desk.obey_due.Given as goal

abbrev pub invariant-loop-obeyed : goal.invariant-loop-obeyed
invariant-loop-obeyed g l = record {
  told : Told (λ bytes. ObeysDue g.T.LineTerminal.acts l.now l.fn.self.terminal (g.O.Orders.left l.fn.self.orders) bytes l.self.terminal (g.O.Orders.left l.self.orders))
      (g.P.Reports.stand l.fn.self.reports) (g.P.Reports.stand l.self.reports);
  voice : l.self.voice ≡ l.fn.self.voice;
  count : l.self.count ≡ l.fn.self.count;
}
