use Rattle.std.proofs.Common.{[], refl}
use Rattle.bit_line.proofs.SendLaws as laws
use Rattle.bit_line.proofs.stuffer.Stuffer.new.Goals as goal

pub invariant_of-result : goal.invariant_of-result
invariant_of-result c = ([], [], laws.gave_none _ refl c.new.ensures.len)

pub returns : goal.returns
returns c = laws.gave_none _ refl c.new.ensures.len
