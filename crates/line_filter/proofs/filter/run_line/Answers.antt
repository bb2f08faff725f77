use Rattle.std.proofs.Common.{refl, ap, take, rules}
use Rattle.std.proofs.KnownBytes.{Keeps-refl}
use Rattle.line_filter.proofs.Passing.{served_none, served_on, served_kept, over_end, over_quit}
use Rattle.line_filter.proofs.Beginning.{begun_none, begun_ahead, begun_more, begun_served, begun_kept}
use Rattle.line_filter.proofs.filter.run_line.Goals as goal
use Rattle.line_filter.proofs.filter.run_line.Goals.{in-Ok+in_ok-goes_on-in-Ok+else-not-goes_on, in-Err+else-ne}

pub loop-read-init : goal.loop-read-init
loop-read-init g c = served_none _ _ _ _ _ _ _ _ _ c.in_ok-write_ahead.ensures.all

pub returns-in-Ok-eq0-clause-over : goal.returns-in-Ok-eq0-clause-over
returns-in-Ok-eq0-clause-over g c =
    over_end _ _ _ _ _ _ _ _ _ _ _ c.loop-read.invariant c.in-Ok-eq0.ensures.bytes.0 (ap (λ n. take n c.read.new.buf) c.in-Ok-eq0.field-0-test)
    (c.in-Ok-eq0.ensures.bytes.1 c.in-Ok-eq0.field-0-test (search rules)) refl refl

pub returns-then-not-goes_on-clause-over : goal.returns-then-not-goes_on-clause-over
returns-then-not-goes_on-clause-over g c =
    let made = c.in_ok-goes_on-in-Ok.ensures.all in
    over_quit _ _ _ _ _ _ _ _ _ _ _ _ _ _ made.0 c.loop-read.invariant c.in-Ok.ensures.bytes.0 made.1 made.2 c.if-not-goes_on.true

pub loop-read-preserved : goal.loop-read-preserved
loop-read-preserved g c = elim c.match-read.branch [
  | in-Ok+in_ok-goes_on-in-Ok+else-not-goes_on w ↦
      let made = w.in_ok-goes_on-in-Ok.ensures.all in
      rw (w.desk-is, w.writer-is)
      (served_on _ _ _ _ _ _ _ _ _ _ _ _ _ _ made.0 c.loop-read.invariant w.in-Ok.ensures.bytes.0 made.1 made.2 w.if-not-goes_on.false)
  | in-Err+else-ne w ↦ rw (w.desk-is, w.writer-is) (served_kept _ _ _ _ _ _ _ _ _ _ _ c.loop-read.invariant w.in-Err.ensures.bytes refl refl)
]

-- ---- the output, however the run ends
pub returns-in_err-write_ahead-clause-begun : goal.returns-in_err-write_ahead-clause-begun
returns-in_err-write_ahead-clause-begun g c = begun_none _ _ _ _ _ _ _ _ c.write_ahead.ensures.part

pub returns-in_err-out-clause-begun : goal.returns-in_err-out-clause-begun
returns-in_err-out-clause-begun g c = begun_ahead _ _ _ _ _ _ _ _ c.in_ok-write_ahead.ensures.all

pub returns-in-Ok-eq0-clause-begun : goal.returns-in-Ok-eq0-clause-begun
returns-in-Ok-eq0-clause-begun g c = begun_served _ _ _ _ _ _ _ _ _ _ _ c.loop-read.invariant c.in-Ok-eq0.ensures.bytes.0

pub returns-in_err-goes_on-in-Ok-clause-begun : goal.returns-in_err-goes_on-in-Ok-clause-begun
returns-in_err-goes_on-in-Ok-clause-begun g c = begun_more _ _ _ _ _ _ _ _ _ _ _ _ c.loop-read.invariant c.in-Ok.ensures.bytes.0 c.serve.ensures.part

pub returns-then-not-goes_on-clause-begun : goal.returns-then-not-goes_on-clause-begun
returns-then-not-goes_on-clause-begun g c = begun_more _ _ _ _ _ _ _ _ _ _ _ _ c.loop-read.invariant c.in-Ok.ensures.bytes.0 c.serve.ensures.part

pub returns-then-ne-clause-begun : goal.returns-then-ne-clause-begun
returns-then-ne-clause-begun g c = begun_kept _ _ _ _ _ _ _ _ _ _ c.loop-read.invariant c.in-Err.ensures.bytes

pub returns-clause-begun : goal.returns-clause-begun
returns-clause-begun g c = begun_kept _ _ _ _ _ _ _ _ _ _ c.loop-read.invariant (Keeps-refl _)
