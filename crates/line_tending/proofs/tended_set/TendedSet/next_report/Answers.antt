use Rattle.line_tending.proofs.Calling.{by_none}
use Rattle.line_tending.proofs.Doing.{adds_is}
use Rattle.line_tending.proofs.Acting.{hands_out, adds_report, has_told, not_there}
use Rattle.line_tending.proofs.tended_set.TendedSet.next_report.Goals as goal
use Rattle.line_tending.proofs.tended_set.TendedSet.next_report.Goals.{in-Ok, in-Err}

pub returns-clause-some : goal.returns-clause-some
returns-clause-some c = elim c.match-report.branch [
  | in-Ok w ↦ rw (w.result-is, ← c.self.view_is) (hands_out _ _ c.args.link w.in-Ok.report w.in-Ok.ensures.ok)
  | in-Err w ↦ rw w.result-is tt
]

pub returns-clause-none : goal.returns-clause-none
returns-clause-none c = elim c.match-report.branch [
  | in-Ok w ↦ λ none. rw (← c.self.view_is) (adds_report _ _ c.args.link w.in-Ok.report (rw w.result-is at none) w.in-Ok.ensures.ok)
  | in-Err w ↦ λ none. rw (← c.self.view_is) (adds_is _ _ _ w.in-Err.ensures.err (by_none _))
]

pub returns-clause-told : goal.returns-clause-told
returns-clause-told c = elim c.match-report.branch [
  | in-Ok w ↦ λ none there. has_told c.self.inside.set _ c.args.link w.in-Ok.report (rw w.result-is at none) w.in-Ok.ensures.ok
  | in-Err w ↦ λ none there. not_there c.report.result _ c.self.inside.set c.report.new.self c.args.link w.in-Err.is c.report.ensures.fault w.in-Err.ensures.err there
]
