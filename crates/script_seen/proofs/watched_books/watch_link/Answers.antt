use Rattle.std.proofs.Common.{List, [], map, sym, subst}
use Rattle.turn_code.specs.declared.draft.Draft.{Draft}
use Rattle.actor_machine.specs.Ledger.{Ledger}
use Rattle.script_lines.specs.Scripts.{plain_said}
use Rattle.script_lines.specs.declared.script.Said.{Said}
use Rattle.script_ends.specs.Played.{first_book, IsWritten, IsMissed}
use Rattle.script_seen.specs.TracedKinds.{IsAtStart}
use Rattle.script_seen.specs.WatchedKinds.{IsBookWatched, IsBookWatchedInPart}
use Rattle.script_seen.proofs.WatchedRuns.{opened_set}
use Rattle.script_seen.proofs.watched_books.watch_link.Goals as goal

pub returns-clause-held : goal.returns-clause-held
returns-clause-held g c zero =
    let C : List Said → Type 0 = λ cs. IsWritten c.in_ok-player.player.book (map plain_said cs) (g.W.Write.contents c.args.writer.now) (g.W.Write.contents c.watch_each.new.writer) in
    let B : Ledger → Type 0 =
    λ b. IsWritten b (map plain_said c.args.script.now.commands.items) (g.W.Write.contents c.args.writer.now) (g.W.Write.contents c.watch_each.new.writer) in
    subst B c.in_ok-player.ensures.book (subst C c.deref.ensures.value (c.in_ok-status.ensures.held zero c.in_ok-player.ensures.last))

pub returns-clause-missed : goal.returns-clause-missed
returns-clause-missed g c one =
    let C : List Said → Type 0 = λ cs. IsMissed c.in_ok-player.player.book (map plain_said cs) (g.W.Write.contents c.args.writer.now) (g.W.Write.contents c.watch_each.new.writer) in
    let B : Ledger → Type 0 =
    λ b. IsMissed b (map plain_said c.args.script.now.commands.items) (g.W.Write.contents c.args.writer.now) (g.W.Write.contents c.watch_each.new.writer) in
    subst B c.in_ok-player.ensures.book (subst C c.deref.ensures.value (c.in_ok-status.ensures.missed one c.in_ok-player.ensures.last))

pub returns-clause-watched : goal.returns-clause-watched
returns-clause-watched g c zero =
    let C : List Said → Type 0 =
    λ cs. IsAtStart c.in_ok-player.player.book c.in_ok-tracer.tracer → g.N.Watcher.knows c.in_ok-player.player.book.set [] c.args.watcher.now
    → IsBookWatched c.in_ok-player.player.book (map plain_said cs) (λ ns. g.N.Watcher.knows c.in_ok-player.player.book.set ns c.watch_each.new.watcher) in
    let B : Ledger → Type 0 =
    λ b. IsAtStart b c.in_ok-tracer.tracer → g.N.Watcher.knows b.set [] c.args.watcher.now
    → IsBookWatched b (map plain_said c.args.script.now.commands.items) (λ ns. g.N.Watcher.knows b.set ns c.watch_each.new.watcher) in
    let D : Draft → Type 0 =
    λ d. g.N.Watcher.knows d [] c.args.watcher.now
    → IsBookWatched (first_book c.args.set.now c.args.script.now.settings) (map plain_said c.args.script.now.commands.items) (λ ns. g.N.Watcher.knows d ns c.watch_each.new.watcher) in
    subst D (opened_set c.args.set.now _ _ _)
    (subst B c.in_ok-player.ensures.book (subst C c.deref.ensures.value (c.in_ok-status.ensures.watched zero c.in_ok-player.ensures.last)) c.in_ok-tracer.ensures.start)

pub returns-clause-in_part : goal.returns-clause-in_part
returns-clause-in_part g c one =
    let C : List Said → Type 0 =
    λ cs. IsAtStart c.in_ok-player.player.book c.in_ok-tracer.tracer → g.N.Watcher.knows c.in_ok-player.player.book.set [] c.args.watcher.now
    → IsBookWatchedInPart c.in_ok-player.player.book (map plain_said cs) (λ ns. g.N.Watcher.knows c.in_ok-player.player.book.set ns c.watch_each.new.watcher) in
    let B : Ledger → Type 0 =
    λ b. IsAtStart b c.in_ok-tracer.tracer → g.N.Watcher.knows b.set [] c.args.watcher.now
    → IsBookWatchedInPart b (map plain_said c.args.script.now.commands.items) (λ ns. g.N.Watcher.knows b.set ns c.watch_each.new.watcher) in
    let D : Draft → Type 0 =
    λ d. g.N.Watcher.knows d [] c.args.watcher.now
    → IsBookWatchedInPart (first_book c.args.set.now c.args.script.now.settings) (map plain_said c.args.script.now.commands.items) (λ ns. g.N.Watcher.knows d ns c.watch_each.new.watcher) in
    subst D (opened_set c.args.set.now _ _ _)
    (subst B c.in_ok-player.ensures.book (subst C c.deref.ensures.value (c.in_ok-status.ensures.in_part one c.in_ok-player.ensures.last)) c.in_ok-tracer.ensures.start)
