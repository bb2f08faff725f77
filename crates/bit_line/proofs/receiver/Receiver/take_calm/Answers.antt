use Rattle.bit_line.proofs.EventLaws.{at_zero}
use Rattle.bit_line.proofs.receiver.Receiver.take_calm.Goals as goal

pub returns-then-not-is_calm-clause-stands : goal.returns-then-not-is_calm-clause-stands
returns-then-not-is_calm-clause-stands c h events stands = at_zero c.args.bits h events c.args.self.now stands
