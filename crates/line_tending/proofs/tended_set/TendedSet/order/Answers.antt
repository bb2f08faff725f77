use Rattle.line_tending.proofs.Acting.{adds_command}
use Rattle.line_tending.proofs.tended_set.TendedSet.order.Goals as goal
use Rattle.line_tending.proofs.tended_set.TendedSet.order.Goals.{in-Ok, in-Err}

pub returns-clause-adds : goal.returns-clause-adds
returns-clause-adds c = rw (← c.self.view_is) (adds_command _ _ c.args.link c.args.command c.command.result c.command.ensures.ok c.command.ensures.err)

pub returns-clause-ok : goal.returns-clause-ok
returns-clause-ok c = elim c.match-command.branch [
  | in-Ok w ↦ rw (w.result-is, ← c.self.view_is) w.in-Ok.ensures.ok
  | in-Err w ↦ rw w.result-is tt
]

pub returns-clause-err : goal.returns-clause-err
returns-clause-err c = elim c.match-command.branch [
  | in-Ok w ↦ rw w.result-is tt
  | in-Err w ↦ rw (w.result-is, ← c.self.view_is) w.in-Err.ensures.err
]
