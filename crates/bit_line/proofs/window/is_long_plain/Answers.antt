use Rattle.std.proofs.lemmas.Bool.{eqb-true}
use Rattle.bit_line.proofs.PlainLaws.{plain_low}
use Rattle.bit_line.proofs.window.is_long_plain.Goals as goal

pub returns : goal.returns
returns c is m less = plain_low c.args.window m 40 less (eqb-true _ 0 is)
