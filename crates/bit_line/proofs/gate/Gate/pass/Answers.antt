use Rattle.std.proofs.Common.{refl}
use Rattle.bit_line.proofs.GateLaws as laws
use Rattle.bit_line.proofs.gate.Gate.pass.Goals as goal

pub returns-then-not-self-clause-passed : goal.returns-then-not-self-clause-passed
returns-then-not-self-clause-passed c h b other late lets = laws.pass-unseen b h c.args.self.now other c.if-not-self.true lets

pub returns-then-self-eq0-clause-passed : goal.returns-then-self-eq0-clause-passed
returns-then-self-eq0-clause-passed c h b other late lets =
    laws.pass-late b c.args.late h c.args.self.now _ other late c.if-not-self.false c.if-self-eq0.true refl refl (λ d holds. c.push.ensures d holds) lets

pub returns-then-self-eq0-2-clause-passed : goal.returns-then-self-eq0-2-clause-passed
returns-then-self-eq0-2-clause-passed c h b other late lets =
    laws.pass-last b h c.args.self.now _ other c.if-not-self.false refl refl c.if-self-eq0.false c.if-self-eq0-2.true c.clear.ensures lets

pub returns-else-self-eq0-2-clause-passed : goal.returns-else-self-eq0-2-clause-passed
returns-else-self-eq0-2-clause-passed c h b other late lets =
    laws.pass-waiting b h c.args.self.now _ other c.if-not-self.false refl refl c.if-self-eq0-2.false lets
