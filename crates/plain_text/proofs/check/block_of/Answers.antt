use Rattle.std.proofs.lemmas.List.{drop-replicate}
use Rattle.plain_text.proofs.check.block_of.Goals as goal

pub returns : goal.returns
returns c = rw (c.copy_from_slice.ensures.after, drop-replicate)
