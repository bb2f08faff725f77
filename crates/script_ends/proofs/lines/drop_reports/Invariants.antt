-- The reports taken out so far.
use Rattle.std.proofs.Common.{◌<◌, length}
use Rattle.link_group.specs.Set.{LinkSet}
use Rattle.script_ends.specs.GroupAnswers.{GivesReports}
use Rattle.script_ends.proofs.LineAnswers.{reports_at}
use Rattle.script_ends.proofs.lines.drop_reports.Given as goal

abbrev pub invariant-reports : goal.invariant-reports
invariant-reports l = record {
  there : l.link < length l.group.links;
  gives : (d : LinkSet) → GivesReports l.link l.group d → GivesReports l.link l.initial.group d;
}

abbrev pub decreases-reports : goal.decreases-reports
decreases-reports l = reports_at l.link l.group
