use Rattle.bit_line.proofs.ModeLaws.{counting_stands}
use Rattle.bit_line.proofs.receiver.Receiver.is_counting.Goals as goal

pub returns : goal.returns
returns c bits stands = counting_stands bits c.args.self.now _ c.is_normal.ensures stands
