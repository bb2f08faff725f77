use Rattle.std.proofs.Common.{sym}
use Rattle.line_tending.proofs.Acting.{acts_send}
use Rattle.line_tending.proofs.tended_set.TendedSet.send.Goals as goal
use Rattle.line_tending.proofs.tended_set.TendedSet.send.Goals.{in-Ok, in-Err}

pub returns-clause-ok : goal.returns-clause-ok
returns-clause-ok c = elim c.match-send.branch [
  | in-Ok w ↦ rw (w.result-is, ← c.self.view_is) (acts_send _ _ c.args.msu (sym w.in-Ok.ensures.fault) c.send.ensures.within w.in-Ok.ensures.ok)
  | in-Err w ↦ rw w.result-is tt
]
