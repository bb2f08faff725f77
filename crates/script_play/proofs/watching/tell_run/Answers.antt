use Rattle.std.proofs.Common.{sym, subst}
use Rattle.script_play.specs.Seen.{IsPlayTold, IsPlayToldInPart, Grew, told_of}
use Rattle.script_play.specs.declared.watching.RunSummary.{RunSummary}
use Rattle.script_play.proofs.watching.tell_run.Goals as goal

pub returns-in-Chart-clause-held : goal.returns-in-Chart-clause-held
returns-in-Chart-clause-held g c is bytes keeps =
    let P : RunSummary → Type 0 = λ t. IsPlayTold c.args.limits (g.W.Write.contents c.args.writer.now) (g.W.Write.contents c.tell_chart.new.writer)
    (Grew (told_of t) c.args.set.now (g.T.Write.contents c.args.out.now) (g.T.Write.contents c.tell_chart.new.out)) c.args.set.now bytes in
    subst P (sym c.in-Chart.is) (c.tell_chart.ensures.held is bytes keeps)

pub returns-in-Chart-clause-missed : goal.returns-in-Chart-clause-missed
returns-in-Chart-clause-missed g c is bytes keeps =
    let P : RunSummary → Type 0 = λ t. IsPlayToldInPart c.args.limits (g.W.Write.contents c.args.writer.now) (g.W.Write.contents c.tell_chart.new.writer)
    (Grew (told_of t) c.args.set.now (g.T.Write.contents c.args.out.now) (g.T.Write.contents c.tell_chart.new.out)) c.args.set.now bytes in
    subst P (sym c.in-Chart.is) (c.tell_chart.ensures.missed is bytes keeps)

pub returns-in-Thrown-clause-held : goal.returns-in-Thrown-clause-held
returns-in-Thrown-clause-held g c is bytes keeps =
    let P : RunSummary → Type 0 = λ t. IsPlayTold c.args.limits (g.W.Write.contents c.args.writer.now) (g.W.Write.contents c.tell_thrown.new.writer)
    (Grew (told_of t) c.args.set.now (g.T.Write.contents c.args.out.now) (g.T.Write.contents c.tell_thrown.new.out)) c.args.set.now bytes in
    subst P (sym c.in-Thrown.is) (c.tell_thrown.ensures.held is bytes keeps)

pub returns-in-Thrown-clause-missed : goal.returns-in-Thrown-clause-missed
returns-in-Thrown-clause-missed g c is bytes keeps =
    let P : RunSummary → Type 0 = λ t. IsPlayToldInPart c.args.limits (g.W.Write.contents c.args.writer.now) (g.W.Write.contents c.tell_thrown.new.writer)
    (Grew (told_of t) c.args.set.now (g.T.Write.contents c.args.out.now) (g.T.Write.contents c.tell_thrown.new.out)) c.args.set.now bytes in
    subst P (sym c.in-Thrown.is) (c.tell_thrown.ensures.missed is bytes keeps)
