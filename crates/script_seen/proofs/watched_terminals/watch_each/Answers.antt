use Rattle.std.proofs.Common.{map}
use Rattle.script_links.specs.TermScripts.{plain_term_said}
use Rattle.script_ends.specs.TermRuns.{last_of}
use Rattle.script_seen.specs.TracedKinds.{book_in}
use Rattle.script_seen.proofs.TracedRuns.{term_missed_at, term_misses_at}
use Rattle.script_seen.proofs.WatchedRuns.{term_going_begins, term_goes_on, term_gone, term_kept, term_watched_all, term_watched_part}
use Rattle.script_seen.proofs.watched_terminals.watch_each.Goals as goal

pub loop-said-init : goal.loop-said-init
loop-said-init g c =
    term_going_begins c.args.keeps c.args.player.now.terminal (last_of c.args.player.now) (g.W.Write.contents c.args.writer.now)
    (λ ns. g.N.Watcher.knows (book_in c.args.player.now.terminal).set ns c.args.watcher.now) c.args.tracer.now

pub loop-said-preserved : goal.loop-said-preserved
loop-said-preserved g c =
    let so_far = c.loop-said.invariant in
    let next = c.in_ok-watch_next.ensures in
    let on = c.if-not-branch.false in
    let t = c.args.player.now.terminal in
    term_goes_on c.args.keeps t c.args.commands.now c.loop-said.said-index c.said-item.result (last_of c.args.player.now) _ _ _ _
    (λ ns. g.N.Watcher.knows (book_in t).set ns c.args.watcher.now) (λ ns. g.N.Watcher.knows (book_in t).set ns c.watch_next.new.watcher) _ _ c.loop-said-test.true
    c.said-item.is
    (record {
      run = λ none. next.goes on t _ _ (so_far.run none);
      watched = λ none at k. next.watched on t _ _ (so_far.run none) (so_far.watched none at k);
    })

pub returns-then-not-branch-clause-missed : goal.returns-then-not-branch-clause-missed
returns-then-not-branch-clause-missed g c one none =
    term_missed_at c.args.keeps c.args.player.now.terminal c.args.commands.now c.loop-said.said-index c.said-item.result _ _ _ _ _ c.loop-said-test.true c.said-item.is
    (c.loop-said.invariant.run none) (c.in_ok-watch_next.ensures.missed c.if-not-branch.true)

pub returns-then-not-branch-clause-in_part : goal.returns-then-not-branch-clause-in_part
returns-then-not-branch-clause-in_part g c one none at k =
    let t = c.args.player.now.terminal in
    term_watched_part c.args.keeps t c.args.commands.now c.loop-said.said-index c.said-item.result
    (λ ns. g.N.Watcher.knows (book_in t).set ns c.watch_next.new.watcher) _ c.loop-said-test.true c.said-item.is
    (term_misses_at c.args.keeps t _ _ _ _ _ _ _ (c.loop-said.invariant.run none) (c.in_ok-watch_next.ensures.missed c.if-not-branch.true))
    (term_kept (λ ns x. g.N.Watcher.knows (book_in t).set ns x) c.args.keeps t _ _ _ _ (c.in_ok-watch_next.ensures.unwatched c.if-not-branch.true)
    (c.loop-said.invariant.watched none at k))

pub returns-clause-held : goal.returns-clause-held
returns-clause-held g c zero none =
    let gone = term_gone c.args.keeps c.args.player.now.terminal c.args.commands.now c.loop-said.said-index (last_of c.args.player.now) _ _ _ _ _ _ _ _
    c.loop-said-test.false c.loop-said.invariant in
    (_, _, gone.run none)

pub returns-clause-watched : goal.returns-clause-watched
returns-clause-watched g c zero none at k =
    let gone = term_gone c.args.keeps c.args.player.now.terminal c.args.commands.now c.loop-said.said-index (last_of c.args.player.now) _ _ _ _ _ _ _ _
    c.loop-said-test.false c.loop-said.invariant in
    term_watched_all c.args.keeps c.args.player.now.terminal (map plain_term_said c.args.commands.now) _ _ (gone.watched none at k)
