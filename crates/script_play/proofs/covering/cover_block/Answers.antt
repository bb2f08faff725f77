use Rattle.std.proofs.Common.{inl, inr, arith}
use Rattle.script_covered.specs.Texts.{IsCovering}
use Rattle.script_play.specs.Seen.{turns_run, IsCoveredBy}
use Rattle.script_play.proofs.Tellings.{play_told_as, play_part_as, status_was}
use Rattle.script_play.proofs.CoveredPlays.{covered_to}
use Rattle.script_play.proofs.covering.cover_block.Goals as goal

pub returns-in-Ok-clause-held : goal.returns-in-Ok-clause-held
returns-in-Ok-clause-held g c zero bytes keeps =
    let ran = status_was _ c.watch_text-status.result 0 c.tell.ensures.status zero (λ is. omega (arith, is)) in
    play_told_as c.args.limits _ _ c.args.set.now bytes (λ ns. IsCovering (turns_run ns) c.watch_text-status.new.watcher.coverage)
    (IsCoveredBy c.args.name.now c.args.text.now (g.T.Write.contents c.args.out.now) (g.T.Write.contents c.tell.new.out))
    (covered_to c.report-told.result _ _ c.args.name.now c.args.text.now c.watch_text-status.new.watcher.coverage (c.tell.ensures.told (inl zero)) c.report-told.ensures)
    (c.watch_text-status.ensures.held ran c.in-Ok.ensures bytes keeps)

pub returns-in-Ok-clause-missed : goal.returns-in-Ok-clause-missed
returns-in-Ok-clause-missed g c one bytes keeps =
    let ran = status_was _ c.watch_text-status.result 1 c.tell.ensures.status one (λ is. omega (arith, is)) in
    play_part_as c.args.limits _ _ c.args.set.now bytes (λ ns. IsCovering (turns_run ns) c.watch_text-status.new.watcher.coverage)
    (IsCoveredBy c.args.name.now c.args.text.now (g.T.Write.contents c.args.out.now) (g.T.Write.contents c.tell.new.out))
    (covered_to c.report-told.result _ _ c.args.name.now c.args.text.now c.watch_text-status.new.watcher.coverage (c.tell.ensures.told (inr one)) c.report-told.ensures)
    (c.watch_text-status.ensures.missed ran c.in-Ok.ensures bytes keeps)

pub returns-in-Ok-clause-refused : goal.returns-in-Ok-clause-refused
returns-in-Ok-clause-refused g c two bytes keeps =
    c.watch_text-status.ensures.refused (status_was _ c.watch_text-status.result 2 c.tell.ensures.status two (λ is. omega (arith, is))) bytes keeps
