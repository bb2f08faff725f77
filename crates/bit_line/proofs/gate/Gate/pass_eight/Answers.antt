use Rattle.std.proofs.Common.{refl}
use Rattle.bit_line.proofs.PassLaws as laws
use Rattle.bit_line.proofs.gate.Gate.pass_eight.Goals as goal

pub returns-then-not-self : goal.returns-then-not-self
returns-then-not-self c h k long ends is lets = laws.few-unseen k h c.args.self.now ends c.if-not-self.true lets

pub returns-then-self-eq0 : goal.returns-then-self-eq0
returns-then-self-eq0 c h k long ends is lets =
    laws.few-late k h _ c.args.self.now _ ends is c.if-not-self.false c.if-self-eq0.true refl refl (λ d holds. c.push_eight.ensures d holds) lets
