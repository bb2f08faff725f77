use Rattle.std.proofs.Common.{rules}
use Rattle.line_tending.proofs.Fields.{is_about}
use Rattle.line_tending.proofs.ends.Ends.message.Goals as goal

pub returns : goal.returns
returns c = is_about c.args.self c.args.indicator c.args.link c.label.result c.args.content.now _ (search rules) (search rules) (search rules) c.label.ensures
