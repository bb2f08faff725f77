use Rattle.std.proofs.Common.{rules, refl}
use Rattle.line_streams.proofs.Exchanging.{first_captures}
use Rattle.line_streams.proofs.capture.Capture.new.Goals as goal

pub returns-clause-first : goal.returns-clause-first
returns-clause-first c = first_captures _ (search rules) (search rules) refl (c.new-3.ensures.first c.args.link)
