-- The commands so far were obeyed and echoed.
use Rattle.std.proofs.Common.{◌≡◌, None, map, take}
use Rattle.script_lines.specs.Lines.{plain_line}
use Rattle.script_links.specs.TermScripts.{plain_term_said}
use Rattle.script_ends.specs.TermRuns.{last_of}
use Rattle.script_seen.specs.Kinds.{TermShowing}
use Rattle.script_seen.proofs.terminals.show_each.Given as goal

abbrev pub invariant-loop-said : goal.invariant-loop-said
invariant-loop-said g l =
    last_of l.initial.player ≡ None
    → TermShowing l.keeps (map plain_line l.lines) l.initial.player.terminal (map plain_term_said (take l.said-index l.commands)) (g.W.Write.contents l.initial.writer)
    (g.W.Write.contents l.writer) l.printed.items l.player.terminal (last_of l.player)
