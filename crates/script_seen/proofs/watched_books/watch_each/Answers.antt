use Rattle.std.proofs.Common.{map}
use Rattle.script_lines.specs.Scripts.{plain_said}
use Rattle.script_ends.specs.Played.{last_of}
use Rattle.script_seen.proofs.TracedRuns.{book_missed_at, book_misses_at}
use Rattle.script_seen.proofs.WatchedRuns.{book_going_begins, book_goes_on, book_gone, book_kept, book_watched_all, book_watched_part}
use Rattle.script_seen.proofs.watched_books.watch_each.Goals as goal

pub loop-said-init : goal.loop-said-init
loop-said-init g c =
    book_going_begins c.args.player.now.book (last_of c.args.player.now) (g.W.Write.contents c.args.writer.now)
    (λ ns. g.N.Watcher.knows c.args.player.now.book.set ns c.args.watcher.now) c.args.tracer.now

pub loop-said-preserved : goal.loop-said-preserved
loop-said-preserved g c =
    let so_far = c.loop-said.invariant in
    let next = c.in_ok-watch_next.ensures in
    let on = c.if-not-branch.false in
    let b = c.args.player.now.book in
    book_goes_on b c.args.commands.now c.loop-said.said-index c.said-item.result (last_of c.args.player.now) _ _ _ _
    (λ ns. g.N.Watcher.knows b.set ns c.args.watcher.now) (λ ns. g.N.Watcher.knows b.set ns c.watch_next.new.watcher) _ _ c.loop-said-test.true c.said-item.is
    (record {
      run = λ none. next.goes on b _ _ (so_far.run none);
      watched = λ none at k. next.watched on b _ _ (so_far.run none) (so_far.watched none at k);
    })

pub returns-then-not-branch-clause-missed : goal.returns-then-not-branch-clause-missed
returns-then-not-branch-clause-missed g c one none =
    book_missed_at c.args.player.now.book c.args.commands.now c.loop-said.said-index c.said-item.result _ _ _ _ _ c.loop-said-test.true c.said-item.is
    (c.loop-said.invariant.run none) (c.in_ok-watch_next.ensures.missed c.if-not-branch.true)

pub returns-then-not-branch-clause-in_part : goal.returns-then-not-branch-clause-in_part
returns-then-not-branch-clause-in_part g c one none at k =
    let b = c.args.player.now.book in
    book_watched_part b c.args.commands.now c.loop-said.said-index c.said-item.result (λ ns. g.N.Watcher.knows b.set ns c.watch_next.new.watcher) _
    c.loop-said-test.true c.said-item.is
    (book_misses_at b _ _ _ _ _ _ _ (c.loop-said.invariant.run none) (c.in_ok-watch_next.ensures.missed c.if-not-branch.true))
    (book_kept (λ ns x. g.N.Watcher.knows b.set ns x) b _ _ _ _ (c.in_ok-watch_next.ensures.unwatched c.if-not-branch.true)
    (c.loop-said.invariant.watched none at k))

pub returns-clause-held : goal.returns-clause-held
returns-clause-held g c zero none =
    let gone = book_gone c.args.player.now.book c.args.commands.now c.loop-said.said-index (last_of c.args.player.now) _ _ _ _ _ _ _ _ c.loop-said-test.false
    c.loop-said.invariant in
    record { now = _; last = _; run = gone.run none }

pub returns-clause-watched : goal.returns-clause-watched
returns-clause-watched g c zero none at k =
    let gone = book_gone c.args.player.now.book c.args.commands.now c.loop-said.said-index (last_of c.args.player.now) _ _ _ _ _ _ _ _ c.loop-said-test.false
    c.loop-said.invariant in
    book_watched_all c.args.player.now.book (map plain_said c.args.commands.now) _ _ (gone.watched none at k)
