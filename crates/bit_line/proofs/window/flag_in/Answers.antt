use Rattle.std.proofs.Common.{arith}
use Rattle.bit_line.proofs.PlainLaws.{plain_else}
use Rattle.bit_line.proofs.window.flag_in.Goals as goal

pub returns-clause-alone : goal.returns-clause-alone
returns-clause-alone c m other = plain_else c.args.window _ m (omega (arith, c.if-place-gt55.false)) c.if-ends-place.false other
