use Rattle.std.proofs.Common.{sym}
use Rattle.turn_rules.specs.Seen.{seen}
use Rattle.turn_rules.proofs.Whole.{no_parts_code}
use Rattle.turn_rules.proofs.check.check_at.Goals as goal

pub returns-in-None-clause-ok : goal.returns-in-None-clause-ok
returns-in-None-clause-ok c = no_parts_code c.args.draft.now (seen c.args.transition.now) c.args.place (sym c.in-None.ensures)
