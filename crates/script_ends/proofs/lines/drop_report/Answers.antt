use Rattle.script_ends.proofs.LineAnswers.{reported_by}
use Rattle.script_ends.proofs.lines.drop_report.Goals as goal

pub returns : goal.returns
returns c = reported_by c.args.link _ _ c.in-Ok.report c.is_some.result c.is_some.ensures c.in-Ok.ensures.ok
