-- The commands so far were obeyed and captured.
use Rattle.std.proofs.Common.{map, take}
use Rattle.script_links.specs.TermScripts.{plain_term_said}
use Rattle.script_seen.specs.TermRuns.{last_of}
use Rattle.script_play.proofs.TermCaptures.{TermGoing}
use Rattle.script_play.proofs.captured_terminals.capture_each.Given as goal

abbrev pub invariant-loop-said : goal.invariant-loop-said
invariant-loop-said g l =
    TermGoing l.keeps l.initial.player.terminal (map plain_term_said (take l.said-index l.commands)) (last_of l.initial.player) (g.W.Write.contents l.initial.writer)
    (g.W.Write.contents l.writer) (g.T.Write.contents l.initial.out) (g.T.Write.contents l.out) l.player.terminal (last_of l.player) l.initial.link l.link
