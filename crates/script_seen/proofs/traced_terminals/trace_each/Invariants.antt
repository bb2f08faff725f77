-- The commands so far were obeyed and traced.
use Rattle.std.proofs.Common.{map, take}
use Rattle.script_lines.specs.Lines.{plain_line}
use Rattle.script_links.specs.TermScripts.{plain_term_said}
use Rattle.script_ends.specs.TermRuns.{last_of}
use Rattle.script_seen.proofs.TracedRuns.{TermGoing}
use Rattle.script_seen.proofs.traced_terminals.trace_each.Given as goal

abbrev pub invariant-loop-said : goal.invariant-loop-said
invariant-loop-said g l =
    TermGoing l.keeps (map plain_line l.lines) l.initial.player.terminal (map plain_term_said (take l.said-index l.commands)) (last_of l.initial.player)
    (g.W.Write.contents l.initial.writer) (g.W.Write.contents l.writer) (g.T.Write.contents l.initial.trace) (g.T.Write.contents l.trace) l.player.terminal
    (last_of l.player) l.initial.tracer l.tracer
