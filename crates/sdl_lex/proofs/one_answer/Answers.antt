-- Two chains of items that both end where no further item can be read are equal.
use Rattle.sdl_lex.proofs.OneLemmas.{one_answer_lem}
use Rattle.sdl_lex.proofs.one_answer.Goals as goal

pub returns : goal.returns
returns c = one_answer_lem
