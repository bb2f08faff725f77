use Rattle.line_tending.proofs.Acting.{adds_rebalance, rebalanced_so}
use Rattle.line_tending.proofs.tended_set.TendedSet.rebalance.Goals as goal
use Rattle.line_tending.proofs.tended_set.TendedSet.rebalance.Goals.{in-Ok, in-Err}

pub returns-clause-adds : goal.returns-clause-adds
returns-clause-adds c = rw (← c.self.view_is) (adds_rebalance _ _ c.rebalance.result c.rebalance.ensures.fault c.rebalance.ensures.ok c.rebalance.ensures.err)

pub returns-clause-fault : goal.returns-clause-fault
returns-clause-fault c = elim c.match-rebalance.branch [
  | in-Ok w ↦ rw (w.result-is, ← c.self.view_is) w.in-Ok.ensures.fault
  | in-Err w ↦ rw (w.result-is, ← c.self.view_is) w.in-Err.ensures.fault
]

pub returns-clause-ok : goal.returns-clause-ok
returns-clause-ok c = elim c.match-rebalance.branch [
  | in-Ok w ↦ rw (w.result-is, ← c.self.view_is) (rebalanced_so _ _ w.in-Ok.ensures.ok)
  | in-Err w ↦ rw w.result-is tt
]
