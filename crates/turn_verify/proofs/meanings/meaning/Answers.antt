use Rattle.turn_verify.proofs.meanings.meaning.Goals as goal

pub returns : goal.returns
returns c = c.in_ok-meant.ensures.block
