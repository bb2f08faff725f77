use Rattle.std.proofs.Common.{List, ℕ, [], inl, inr, arith, refl}
use Rattle.script_seen.specs.Watched.{Notice, turns_in}
use Rattle.script_play.specs.Seen.{Grew}
use Rattle.script_play.specs.Charted.{charted_of, chart_text, Charts}
use Rattle.script_play.proofs.Tellings.{play_told_as, play_part_as, told_to, status_was}
use Rattle.script_play.proofs.watching.tell_chart.Goals as goal

pub returns-clause-held : goal.returns-clause-held
returns-clause-held g c zero bytes keeps =
    let ran = status_was _ c.watch_text-status.result 0 c.tell.ensures.status zero (λ is. omega (arith, is)) in
    play_told_as c.args.limits _ _ c.args.set.now bytes (λ ns. Charts c.args.set.now (turns_in ns) c.watch_text-status.new.watcher)
    (Grew (charted_of c.args.cut) c.args.set.now (g.T.Write.contents c.args.out.now) (g.T.Write.contents c.tell.new.out))
    (λ ns known. told_to c.text.result _ _ (λ ts. Charts c.args.set.now ts c.watch_text-status.new.watcher) (chart_text c.args.set.now c.args.cut) (c.tell.ensures.told (inl zero)) c.text.ensures
    (turns_in ns) known) (c.watch_text-status.ensures.held ran (c.new-chart.ensures c.args.set.now) bytes keeps)

pub returns-clause-missed : goal.returns-clause-missed
returns-clause-missed g c one bytes keeps =
    let ran = status_was _ c.watch_text-status.result 1 c.tell.ensures.status one (λ is. omega (arith, is)) in
    play_part_as c.args.limits _ _ c.args.set.now bytes (λ ns. Charts c.args.set.now (turns_in ns) c.watch_text-status.new.watcher)
    (Grew (charted_of c.args.cut) c.args.set.now (g.T.Write.contents c.args.out.now) (g.T.Write.contents c.tell.new.out))
    (λ ns known. told_to c.text.result _ _ (λ ts. Charts c.args.set.now ts c.watch_text-status.new.watcher) (chart_text c.args.set.now c.args.cut) (c.tell.ensures.told (inr one)) c.text.ensures
    (turns_in ns) known) (c.watch_text-status.ensures.missed ran (c.new-chart.ensures c.args.set.now) bytes keeps)

pub returns-clause-refused : goal.returns-clause-refused
returns-clause-refused g c two bytes keeps =
    c.watch_text-status.ensures.refused (status_was _ c.watch_text-status.result 2 c.tell.ensures.status two (λ is. omega (arith, is))) bytes keeps
