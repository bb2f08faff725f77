-- The commands so far were obeyed, and the watcher was notified.
use Rattle.std.proofs.Common.{map, take}
use Rattle.script_lines.specs.Scripts.{plain_said}
use Rattle.script_ends.specs.Played.{last_of}
use Rattle.script_seen.proofs.WatchedRuns.{BookGoing}
use Rattle.script_seen.proofs.watched_books.watch_each.Given as goal

abbrev pub invariant-loop-said : goal.invariant-loop-said
invariant-loop-said g l =
    BookGoing l.initial.player.book (map plain_said (take l.said-index l.commands)) (last_of l.initial.player) (g.W.Write.contents l.initial.writer)
    (g.W.Write.contents l.writer) l.player.book (last_of l.player) (λ ns. g.N.Watcher.knows l.initial.player.book.set ns l.initial.watcher)
    (λ ns. g.N.Watcher.knows l.initial.player.book.set ns l.watcher) l.initial.tracer l.tracer
