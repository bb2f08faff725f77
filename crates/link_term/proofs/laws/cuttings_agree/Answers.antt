use Rattle.link_term.proofs.Cutting.{heard_joined}
use Rattle.link_term.proofs.laws.cuttings_agree.Goals as goal

pub returns : goal.returns
returns c = heard_joined
