use Rattle.sdl_tree.proofs.ParseLemmas.{one_tree}
use Rattle.sdl_tree.proofs.parsing.reads_once.Goals as goal

pub returns : goal.returns
returns c = one_tree c.args.tokens.now
