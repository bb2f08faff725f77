use Rattle.std.proofs.Common.{true≢false}
use Rattle.script_covered.proofs.Countings.{set_more}
use Rattle.script_covered.proofs.coverage.Places.take.Goals as goal

pub returns-in-Some : goal.returns-in-Some
returns-in-Some c = λ f has under k. set_more f c.args.self.now.times.items c.args.at c.in-Some.times c.in-Some.ensures.0 c.in-Some.ensures.1 (has under) k

pub returns-in-None : goal.returns-in-None
returns-in-None c = λ f has under. absurd (true≢false under)
