use Rattle.turn_verify.proofs.Unmarked.{plain_tokens}
use Rattle.turn_verify.proofs.laws.as_written.Goals as goal

pub returns : goal.returns
returns c = λ text b w none. c.plain_law.ensures b (c.reads_plain.ensures b (plain_tokens text c.args.tokens.now w.lexed none) w.reads)
