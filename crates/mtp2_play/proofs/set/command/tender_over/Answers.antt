use Rattle.mtp2_play.proofs.Known.{named_result}
use Rattle.mtp2_play.proofs.set.command.tender_over.Goals as goal

pub returns-clause-refused : goal.returns-clause-refused
returns-clause-refused g c = named_result c.open_tender.result _ _ _ _ _ c.set_word-name.ensures c.open_tender.ensures.refused
