use Rattle.std.proofs.Common.{string_bytes}
use Rattle.line_play.proofs.set.given.Given.with_mark.Goals as goal

pub returns : goal.returns
returns c = λ i. record { mark = string_bytes c.args.mark; text = c.in_ok-text.ensures i; said = c.in_ok-said.ensures i }
