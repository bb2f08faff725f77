-- The reports taken out so far.
use Rattle.std.proofs.Common.{◌≡◌}
use Rattle.script_ends.specs.TermAnswers.{without_reports}
use Rattle.script_ends.proofs.TermAnswers.{reports}
use Rattle.script_ends.proofs.hearing.drop_reports.Given as goal

abbrev pub invariant-reports : goal.invariant-reports
invariant-reports l = without_reports l.terminal ≡ without_reports l.initial.terminal

abbrev pub decreases-reports : goal.decreases-reports
decreases-reports l = reports l.terminal.processes.transceiver
