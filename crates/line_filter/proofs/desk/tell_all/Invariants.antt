-- The reports written so far.
use Rattle.line_filter.specs.Orders.{Tells}
use Rattle.line_filter.specs.Desks.{Told}
use Rattle.line_filter.proofs.desk.tell_all.Given as goal

abbrev pub invariant-loop-told : goal.invariant-loop-told
invariant-loop-told g l =
    Told (λ bytes. Tells g.T.LineTerminal.acts l.now l.initial.terminal bytes l.terminal) (g.P.Reports.stand l.initial.reports) (g.P.Reports.stand l.reports)
