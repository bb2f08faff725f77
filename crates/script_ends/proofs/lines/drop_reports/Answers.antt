use Rattle.script_ends.proofs.LineAnswers.{none_given, one_given, fewer_after, there_reported}
use Rattle.script_ends.proofs.lines.drop_reports.Goals as goal

pub returns-then-not-drop_report : goal.returns-then-not-drop_report
returns-then-not-drop_report c =
    c.reports.invariant.gives _ (none_given c.args.link _ _ _ c.if-not-drop_report.true c.drop_report.ensures)

pub reports-smaller : goal.reports-smaller
reports-smaller c = fewer_after c.args.link _ _ _ c.if-not-drop_report.false c.drop_report.ensures

pub reports-preserved : goal.reports-preserved
reports-preserved c = record {
  gives = λ d others. c.reports.invariant.gives d (one_given c.args.link _ _ _ _ c.if-not-drop_report.false c.drop_report.ensures others);
  there = there_reported c.args.link _ _ _ c.drop_report.ensures;
}
