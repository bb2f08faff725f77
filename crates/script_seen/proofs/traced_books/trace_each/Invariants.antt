-- The commands so far were obeyed and traced.
use Rattle.std.proofs.Common.{map, take}
use Rattle.script_lines.specs.Lines.{plain_line}
use Rattle.script_lines.specs.Scripts.{plain_said}
use Rattle.script_ends.specs.Played.{last_of}
use Rattle.script_seen.proofs.TracedRuns.{BookGoing}
use Rattle.script_seen.proofs.traced_books.trace_each.Given as goal

abbrev pub invariant-loop-said : goal.invariant-loop-said
invariant-loop-said g l =
    BookGoing (map plain_line l.lines) l.initial.player.book (map plain_said (take l.said-index l.commands)) (last_of l.initial.player)
    (g.W.Write.contents l.initial.writer) (g.W.Write.contents l.writer) (g.T.Write.contents l.initial.trace) (g.T.Write.contents l.trace) l.player.book
    (last_of l.player) l.initial.tracer l.tracer
