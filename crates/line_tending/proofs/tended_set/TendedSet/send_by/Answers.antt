use Rattle.std.proofs.Common.{sym, ◌∙◌}
use Rattle.line_tending.proofs.Acting.{adds_bind}
use Rattle.line_tending.proofs.tended_set.TendedSet.send_by.Goals as goal

pub returns : goal.returns
returns c =
    rw (← c.self.view_is)
    (adds_bind _ _ c.args.link c.args.msu c.send_by.result (sym c.is_bound.ensures ∙ c.if-not-is_bound.false) c.send_by.ensures.fault c.send_by.ensures.ok c.send_by.ensures.err)
