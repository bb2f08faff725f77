use Rattle.sdl_rules.proofs.Itself.{means_itself}
use Rattle.sdl_rules.proofs.Literals.{block_plain}
use Rattle.sdl_rules.proofs.laws.plain_law.Goals as goal

pub returns : goal.returns
returns c = λ b h. means_itself b (block_plain b h)
