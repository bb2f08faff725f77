use Rattle.script_play.proofs.covering.cover_tree.Goals as goal

pub cover_block-requires : goal.cover_block-requires
cover_block-requires g c = rw c.in-Ok.ensures.table c.requires
