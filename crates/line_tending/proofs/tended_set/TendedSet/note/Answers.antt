use Rattle.line_tending.proofs.Calling.{by_hears, is_read}
use Rattle.line_tending.proofs.Doing.{adds_is}
use Rattle.line_tending.proofs.tended_set.TendedSet.note.Goals as goal

pub returns : goal.returns
returns c =
    let read = c.read_changeover-message in
    rw (← c.self.view_is)
    (adds_is _ _ _ (c.changeover_message-hearing.ensures.set read.result (is_read c.args.sif.now read.result read.ensures.exact)) (by_hears _ read.result))
