use Rattle.script_ends.proofs.CallAnswers.{octets_fit}
use Rattle.script_ends.proofs.saying.octets_law.Goals as goal

pub returns : goal.returns
returns c = octets_fit c.args.octets.now (λ i. (c.type_inv.octets i).fits)
