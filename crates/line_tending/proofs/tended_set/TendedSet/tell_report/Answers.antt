use Rattle.line_tending.proofs.Acting.{told_pushed, acts_report}
use Rattle.line_tending.proofs.tended_set.TendedSet.tell_report.Goals as goal
use Rattle.line_tending.proofs.tended_set.TendedSet.tell_report.Goals.{in-Ok, in-Err}

pub returns : goal.returns
returns c = elim c.match-push_back.branch [
  | in-Ok w ↦
      rw (w.result-is, ← c.self.view_is)
      (acts_report c.self.inside.set c.self.inside.plan c.self.inside.ticks c.self.inside.told.items c.push_back.new.self.items c.args.told c.self.inside.reader c.self.inside.ordered c.requires
      (told_pushed c.push_back.result c.self.inside.told.items c.push_back.new.self.items c.args.told _ w.in-Ok.is c.push_back.ensures.items))
  | in-Err w ↦ rw w.result-is tt
]
