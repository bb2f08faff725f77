use Rattle.std.proofs.Common.{arith}
use Rattle.line_tending.proofs.Fields.{label_within}
use Rattle.line_tending.proofs.ends.Ends.label.Goals as goal

pub returns : goal.returns
returns c = label_within c.args.self c.args.link c.label_octets.result c.label_octets.ensures
