use Rattle.std.proofs.Common.{Some, None, sym, ◌∙◌}
use Rattle.script_ends.proofs.TermRuns.{printed_unit}
use Rattle.script_ends.proofs.terminals.TermPlayer.print_unit.Goals as goal

pub returns-in_ok-print-in-Some-clause-printed : goal.returns-in_ok-print-in-Some-clause-printed
returns-in_ok-print-in-Some-clause-printed g c =
    printed_unit _ _ _ _ (Some c.in-Some.unit) _ c.in_ok-line-in-Some.line.items c.in_ok-print-in-Some.ensures.last c.in_ok-print-in-Some.ensures.written
    c.in_ok-line-in-Some.ensures (sym c.in-Some.is ∙ c.in_ok-given.ensures.unit)

pub returns-in_ok-print-in-None-clause-printed : goal.returns-in_ok-print-in-None-clause-printed
returns-in_ok-print-in-None-clause-printed g c =
    printed_unit _ _ _ _ None _ c.in_ok-line-in-None.line.items c.in_ok-print-in-None.ensures.last c.in_ok-print-in-None.ensures.written
    c.in_ok-line-in-None.ensures.items (sym c.in-None.is ∙ c.in_ok-given.ensures.unit)
