use Rattle.std.proofs.Common.{refl}
use Rattle.bit_line.proofs.StandLaws as laws
use Rattle.bit_line.proofs.receiver.Receiver.new.Goals as goal

pub returns : goal.returns
returns c = laws.stands_first _ refl c.new.ensures c.new-2.ensures
