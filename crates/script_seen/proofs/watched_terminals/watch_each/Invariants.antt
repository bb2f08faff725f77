-- The commands so far were obeyed, and the watcher was notified.
use Rattle.std.proofs.Common.{map, take}
use Rattle.script_links.specs.TermScripts.{plain_term_said}
use Rattle.script_ends.specs.TermRuns.{last_of}
use Rattle.script_seen.specs.TracedKinds.{book_in}
use Rattle.script_seen.proofs.WatchedRuns.{TermGoing}
use Rattle.script_seen.proofs.watched_terminals.watch_each.Given as goal

abbrev pub invariant-loop-said : goal.invariant-loop-said
invariant-loop-said g l =
    TermGoing l.keeps l.initial.player.terminal (map plain_term_said (take l.said-index l.commands)) (last_of l.initial.player) (g.W.Write.contents l.initial.writer)
    (g.W.Write.contents l.writer) l.player.terminal (last_of l.player) (λ ns. g.N.Watcher.knows (book_in l.initial.player.terminal).set ns l.initial.watcher)
    (λ ns. g.N.Watcher.knows (book_in l.initial.player.terminal).set ns l.watcher) l.initial.tracer l.tracer
