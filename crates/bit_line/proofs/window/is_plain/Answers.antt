use Rattle.std.proofs.Common.{arith}
use Rattle.std.proofs.lemmas.Bool.{eqb-true}
use Rattle.bit_line.proofs.PlainLaws.{plain_by}
use Rattle.bit_line.proofs.window.is_plain.Goals as goal

pub returns : goal.returns
returns c is m less = plain_by c.args.window m 8 less (omega arith) (eqb-true _ 0 is)
