use Rattle.line_filter.proofs.Reporting.{never_lost}
use Rattle.line_filter.proofs.laws.what_waits_is_never_lost.Goals as goal

pub returns : goal.returns
returns c = λ gone later waits left lost more lines. never_lost gone waits lost later left more lines
