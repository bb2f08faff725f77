use Rattle.std.proofs.Common.{Bool, List, [], map, sym, ap, subst, ◌∙◌}
use Rattle.turn_code.specs.declared.draft.Draft.{Draft}
use Rattle.actor_machine.specs.Ledger.{Ledger}
use Rattle.script_ends.specs.Term.{Term}
use Rattle.script_links.specs.TermScripts.{plain_term_said, asks_told}
use Rattle.script_links.specs.declared.script.TermSaid.{TermSaid}
use Rattle.script_ends.specs.TermRuns.{IsTermWritten, IsTermFailed}
use Rattle.script_seen.specs.TracedKinds.{book_in, IsAtStart}
use Rattle.script_seen.specs.WatchedKinds.{IsTermWatched, IsTermWatchedInPart}
use Rattle.script_seen.proofs.TracedRuns.{term_written, term_failed}
use Rattle.script_seen.proofs.WatchedRuns.{opened_set}
use Rattle.script_seen.proofs.watched_terminals.watch_on.Goals as goal

pub returns-clause-held : goal.returns-clause-held
returns-clause-held g c zero =
    let cs = c.as_slice-commands.result.now in
    let X : Term → Type 0 = λ x. IsTermWritten (map plain_term_said cs) (g.W.Write.contents c.args.writer.now) (g.W.Write.contents c.watch_each.new.writer) x in
    let C : List TermSaid → Type 0 =
    λ xs. IsTermWritten (map plain_term_said xs) (g.W.Write.contents c.args.writer.now) (g.W.Write.contents c.watch_each.new.writer) c.args.terminal in
    subst C c.as_slice-commands.ensures.value
    (subst X c.new_player-player.ensures.terminal
    (term_written _ _ (map plain_term_said cs) _ _ c.asks_told-keeps.ensures (c.in_ok-status.ensures.held zero c.new_player-player.ensures.last)))

pub returns-clause-missed : goal.returns-clause-missed
returns-clause-missed g c one =
    let cs = c.as_slice-commands.result.now in
    let X : Term → Type 0 = λ x. IsTermFailed (map plain_term_said cs) (g.W.Write.contents c.args.writer.now) (g.W.Write.contents c.watch_each.new.writer) x in
    let C : List TermSaid → Type 0 =
    λ xs. IsTermFailed (map plain_term_said xs) (g.W.Write.contents c.args.writer.now) (g.W.Write.contents c.watch_each.new.writer) c.args.terminal in
    subst C c.as_slice-commands.ensures.value
    (subst X c.new_player-player.ensures.terminal
    (term_failed _ _ (map plain_term_said cs) _ _ c.asks_told-keeps.ensures (c.in_ok-status.ensures.missed one c.new_player-player.ensures.last)))

pub returns-clause-watched : goal.returns-clause-watched
returns-clause-watched g c zero new =
    let cs = c.as_slice-commands.result.now in
    let S : Ledger → Type 0 = λ b. IsAtStart b c.in_ok-tracer.tracer in
    let X : Term → Type 0 =
    λ x. IsAtStart (book_in x) c.in_ok-tracer.tracer → g.N.Watcher.knows (book_in x).set [] c.args.watcher.now
    → IsTermWatched (asks_told (map plain_term_said cs)) x (map plain_term_said cs) (λ ns. g.N.Watcher.knows (book_in x).set ns c.watch_each.new.watcher) in
    let K : Bool → Type 0 =
    λ k. IsAtStart (book_in c.new_player-player.result.terminal) c.in_ok-tracer.tracer
    → g.N.Watcher.knows (book_in c.new_player-player.result.terminal).set [] c.args.watcher.now
    → IsTermWatched k c.new_player-player.result.terminal (map plain_term_said cs)
    (λ ns. g.N.Watcher.knows (book_in c.new_player-player.result.terminal).set ns c.watch_each.new.watcher) in
    let C : List TermSaid → Type 0 =
    λ xs. IsAtStart (book_in c.args.terminal) c.in_ok-tracer.tracer → g.N.Watcher.knows (book_in c.args.terminal).set [] c.args.watcher.now
    → IsTermWatched (asks_told (map plain_term_said xs)) c.args.terminal (map plain_term_said xs)
    (λ ns. g.N.Watcher.knows (book_in c.args.terminal).set ns c.watch_each.new.watcher) in
    let D : Draft → Type 0 =
    λ d. g.N.Watcher.knows d [] c.args.watcher.now
    → IsTermWatched (asks_told (map plain_term_said c.args.script.now.commands.items)) c.args.terminal (map plain_term_said c.args.script.now.commands.items)
    (λ ns. g.N.Watcher.knows d ns c.watch_each.new.watcher) in
    subst D (ap (λ (b : Ledger). b.set) new ∙ opened_set c.args.set.now _ _ _)
    (subst C c.as_slice-commands.ensures.value
    (subst X c.new_player-player.ensures.terminal
    (subst K c.asks_told-keeps.ensures (c.in_ok-status.ensures.watched zero c.new_player-player.ensures.last))) (subst S (sym new) c.in_ok-tracer.ensures.start))

pub returns-clause-in_part : goal.returns-clause-in_part
returns-clause-in_part g c one new =
    let cs = c.as_slice-commands.result.now in
    let S : Ledger → Type 0 = λ b. IsAtStart b c.in_ok-tracer.tracer in
    let X : Term → Type 0 =
    λ x. IsAtStart (book_in x) c.in_ok-tracer.tracer → g.N.Watcher.knows (book_in x).set [] c.args.watcher.now
    → IsTermWatchedInPart (asks_told (map plain_term_said cs)) x (map plain_term_said cs) (λ ns. g.N.Watcher.knows (book_in x).set ns c.watch_each.new.watcher) in
    let K : Bool → Type 0 =
    λ k. IsAtStart (book_in c.new_player-player.result.terminal) c.in_ok-tracer.tracer
    → g.N.Watcher.knows (book_in c.new_player-player.result.terminal).set [] c.args.watcher.now
    → IsTermWatchedInPart k c.new_player-player.result.terminal (map plain_term_said cs)
    (λ ns. g.N.Watcher.knows (book_in c.new_player-player.result.terminal).set ns c.watch_each.new.watcher) in
    let C : List TermSaid → Type 0 =
    λ xs. IsAtStart (book_in c.args.terminal) c.in_ok-tracer.tracer → g.N.Watcher.knows (book_in c.args.terminal).set [] c.args.watcher.now
    → IsTermWatchedInPart (asks_told (map plain_term_said xs)) c.args.terminal (map plain_term_said xs)
    (λ ns. g.N.Watcher.knows (book_in c.args.terminal).set ns c.watch_each.new.watcher) in
    let D : Draft → Type 0 =
    λ d. g.N.Watcher.knows d [] c.args.watcher.now
    → IsTermWatchedInPart (asks_told (map plain_term_said c.args.script.now.commands.items)) c.args.terminal (map plain_term_said c.args.script.now.commands.items)
    (λ ns. g.N.Watcher.knows d ns c.watch_each.new.watcher) in
    subst D (ap (λ (b : Ledger). b.set) new ∙ opened_set c.args.set.now _ _ _)
    (subst C c.as_slice-commands.ensures.value
    (subst X c.new_player-player.ensures.terminal
    (subst K c.asks_told-keeps.ensures (c.in_ok-status.ensures.in_part one c.new_player-player.ensures.last))) (subst S (sym new) c.in_ok-tracer.ensures.start))
