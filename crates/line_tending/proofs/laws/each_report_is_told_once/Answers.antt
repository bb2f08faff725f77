use Rattle.line_tending.proofs.Lives.{lives_told}
use Rattle.line_tending.proofs.laws.each_report_is_told_once.Goals as goal

pub returns : goal.returns
returns c = lives_told
