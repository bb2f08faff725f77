use Rattle.sdl_rules.proofs.Valuing.{block_values}
use Rattle.sdl_rules.proofs.laws.synonyms_law.Goals as goal

pub returns : goal.returns
returns c = block_values
