use Rattle.turn_verify.proofs.meanings.BlockSynonyms.new.Goals as goal

pub returns : goal.returns
returns c = c.in_ok-known.ensures.known
