use Rattle.turn_rules.specs.Seen.{seen}
use Rattle.turn_check.proofs.Whole.{certified}
use Rattle.turn_check.proofs.verified.Verified.certificate.Goals as goal

pub returns-in-Some-clause-longest : goal.returns-in-Some-clause-longest
returns-in-Some-clause-longest c =
    certified c.args.self.now c.args.process.0 c.args.place c.args.input (seen c.in-Some.transition) c.path_law.ensures c.safe_law.ensures c.keeps.ensures
    c.in-Some.ensures
