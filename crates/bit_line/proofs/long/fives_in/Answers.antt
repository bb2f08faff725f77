use Rattle.bit_line.proofs.LongLaws.{five_set}
use Rattle.bit_line.proofs.long.fives_in.Goals as goal

pub returns : goal.returns
returns c j five = five_set c.args.bits j five
