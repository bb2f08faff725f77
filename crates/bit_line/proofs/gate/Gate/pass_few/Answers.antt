use Rattle.std.proofs.Common.{[], refl, arith}
use Rattle.bit_line.proofs.PassLaws as laws
use Rattle.bit_line.proofs.gate.Gate.pass_few.Goals as goal

pub returns-then-not-self-clause-passed : goal.returns-then-not-self-clause-passed
returns-then-not-self-clause-passed c h k long ends is lets = laws.few-unseen k h c.args.self.now ends c.if-not-self.true lets

pub returns-then-self-eq0-clause-passed : goal.returns-then-self-eq0-clause-passed
returns-then-self-eq0-clause-passed c h k long ends is lets =
    laws.few-late k h _ c.args.self.now _ ends is c.if-not-self.false c.if-self-eq0.true refl refl (λ d holds. c.push_few.ensures d holds) lets

pub returns-then-len-self-clause-passed : goal.returns-then-len-self-clause-passed
returns-then-len-self-clause-passed c h k long ends is lets =
    laws.few-waiting k h c.args.len c.args.self.now _ ends long c.if-len-self.true c.if-not-self.false refl refl lets

pub push_few-requires-2-clause-fits : goal.push_few-requires-2-clause-fits
push_few-requires-2-clause-fits c = laws.late_fits c.args.late c.args.len c.args.self.now.wait (omega (arith, c.if-len-self.false)) c.requires.fits

pub returns-clause-passed : goal.returns-clause-passed
returns-clause-passed c h k long ends is lets =
    laws.few-clears k h c.args.late c.args.len c.args.self.now _ long ends is c.if-not-self.false c.if-self-eq0.false (omega (arith, c.if-len-self.false)) refl refl
    (c.push_few-2.ensures [] c.clear.ensures) lets
