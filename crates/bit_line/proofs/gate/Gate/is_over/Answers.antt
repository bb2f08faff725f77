use Rattle.bit_line.proofs.GateLaws as laws
use Rattle.bit_line.proofs.gate.Gate.is_over.Goals as goal

pub returns-then-not-self : goal.returns-then-not-self
returns-then-not-self c h lets = laws.over-none h (laws.unseen-inside h c.args.self.now lets c.if-not-self.true)

pub returns-else-self-eq0 : goal.returns-else-self-eq0
returns-else-self-eq0 c h lets = laws.over-none h (laws.waiting-inside h c.args.self.now lets c.if-not-self.false c.if-self-eq0.false)
