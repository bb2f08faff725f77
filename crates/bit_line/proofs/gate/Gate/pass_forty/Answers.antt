use Rattle.std.proofs.Common.{refl, arith}
use Rattle.bit_line.proofs.PassLaws as laws
use Rattle.bit_line.proofs.gate.Gate.pass_forty.Goals as goal

pub restart-requires-clause-fits : goal.restart-requires-clause-fits
restart-requires-clause-fits c = laws.late_fits c.args.late 40 c.args.self.now.wait (omega (arith, c.args.self.now.wait_fits)) c.requires.fits

pub returns : goal.returns
returns c h k long ends is lets =
    laws.few-clears k h c.args.late 40 c.args.self.now _ long ends is c.requires.seen c.requires.waits (omega (arith, c.args.self.now.wait_fits)) refl refl c.restart.ensures lets
