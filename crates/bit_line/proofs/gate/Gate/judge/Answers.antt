use Rattle.bit_line.proofs.GateLaws as laws
use Rattle.bit_line.proofs.gate.Gate.judge.Goals as goal

pub returns-then-not-self-clause-judged : goal.returns-then-not-self-clause-judged
returns-then-not-self-clause-judged c h lets = laws.unseen-inside h c.args.self.now lets c.if-not-self.true

pub returns-else-self-eq0-clause-judged : goal.returns-else-self-eq0-clause-judged
returns-else-self-eq0-clause-judged c h lets = laws.waiting-inside h c.args.self.now lets c.if-not-self.false c.if-self-eq0.false
