use Rattle.bit_line.proofs.ShortLaws.{forty}
use Rattle.bit_line.proofs.short.octets_of.Goals as goal

pub returns : goal.returns
returns c = forty c.args.bits
