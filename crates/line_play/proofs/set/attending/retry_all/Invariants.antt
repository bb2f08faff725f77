use Rattle.line_play.specs.SetDoing.{stood}
use Rattle.line_play.specs.SetQueues.{waiting_in}
use Rattle.line_play.proofs.SetQueues.{Retried}
use Rattle.line_play.proofs.set.attending.retry_all.Given as goal

abbrev pub invariant-loop-place : goal.invariant-loop-place
invariant-loop-place g l =
    Retried (waiting_in l.fn.queue) (stood l.fn.state) l._place l.blocked (waiting_in l.queue) (stood l.state) (g.P.Reports.stand l.fn.reports) (g.P.Reports.stand l.reports)
