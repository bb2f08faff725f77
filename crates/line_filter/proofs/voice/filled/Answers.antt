use Rattle.line_filter.proofs.Filling.{filled_bits}
use Rattle.line_filter.proofs.voice.filled.Goals as goal

pub returns : goal.returns
returns c = filled_bits c.args.bits c.args.len c.requires.few c.requires.fits
