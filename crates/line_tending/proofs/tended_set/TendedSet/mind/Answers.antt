use Rattle.line_tending.proofs.Reading.{minds_of}
use Rattle.line_tending.proofs.tended_set.TendedSet.mind.Goals as goal

pub returns : goal.returns
returns c =
    minds_of c.args.messages _ c.args.self.now _ _ _ _ _ c.press_all.result c.self.view_is c.in_ok-tell_reader.ensures c.next-is.ensures c.is_busy.ensures
    c.is_busy-2.ensures c.press_all.ensures.pressed c.press_all.ensures.adds
