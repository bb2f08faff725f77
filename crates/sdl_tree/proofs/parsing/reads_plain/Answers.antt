use Rattle.sdl_tree.proofs.PlainReadings.{reads_plain}
use Rattle.sdl_tree.proofs.parsing.reads_plain.Goals as goal

pub returns : goal.returns
returns c = reads_plain c.args.tokens.now
