use Rattle.mtp2_play.proofs.text.told.too_long.Goals as goal

pub returns : goal.returns
returns c bytes text long = (text, c.fault_of_long.ensures bytes long)
