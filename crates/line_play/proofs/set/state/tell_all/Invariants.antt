use Rattle.line_filter.specs.Desks.{Told as TellsSuch}
use Rattle.line_play.specs.SetRounds.{Tells}
use Rattle.line_play.proofs.set.state.tell_all.Given as goal

abbrev pub invariant-loop-told : goal.invariant-loop-told
invariant-loop-told g l =
    TellsSuch (λ bytes. Tells l.initial.tender bytes l.tender) (g.P.Reports.stand l.initial.reports) (g.P.Reports.stand l.reports)
