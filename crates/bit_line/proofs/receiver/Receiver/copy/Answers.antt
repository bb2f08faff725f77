use Rattle.std.proofs.Common.{refl}
use Rattle.bit_line.proofs.EventLaws as laws
use Rattle.bit_line.proofs.receiver.Receiver.copy.Goals as goal

pub returns : goal.returns
returns c h events stands = laws.copy_stands h events c.args.self.now _ refl (λ lets. c.copy.ensures h lets) c.copy-2.ensures stands
