use Rattle.std.proofs.Common.{not, ap, ◌∙◌}
use Rattle.script_ends.proofs.TermAnswers.{none_left, one_handed, fewer_reports}
use Rattle.script_ends.proofs.hearing.drop_reports.Goals as goal

pub returns-then-is_none : goal.returns-then-is_none
returns-then-is_none c =
    none_left c.args.terminal.now c.reports.terminal c.report.new.self c.report.result c.reports.invariant (c.is_none.ensures ∙ ap not c.if-is_none.true)
    c.report.ensures.report c.report.ensures.transceiver

pub reports-smaller : goal.reports-smaller
reports-smaller c =
    fewer_reports c.reports.terminal c.report.new.self c.report.result (c.is_none.ensures ∙ ap not c.if-is_none.false) c.report.ensures.report
    c.report.ensures.transceiver

pub reports-preserved : goal.reports-preserved
reports-preserved c = one_handed c.args.terminal.now c.reports.terminal c.report.new.self c.reports.invariant c.report.ensures.transceiver
