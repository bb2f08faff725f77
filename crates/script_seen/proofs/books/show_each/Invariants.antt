-- The commands so far were obeyed and echoed.
use Rattle.std.proofs.Common.{◌≡◌, None, map, take}
use Rattle.script_lines.specs.Lines.{plain_line}
use Rattle.script_lines.specs.Scripts.{plain_said}
use Rattle.script_ends.specs.Played.{last_of}
use Rattle.script_seen.specs.Kinds.{BookShowing}
use Rattle.script_seen.proofs.books.show_each.Given as goal

abbrev pub invariant-loop-said : goal.invariant-loop-said
invariant-loop-said g l =
    last_of l.initial.player ≡ None
    → BookShowing (map plain_line l.lines) l.initial.player.book (map plain_said (take l.said-index l.commands)) (g.W.Write.contents l.initial.writer)
    (g.W.Write.contents l.writer) l.printed.items l.player.book (last_of l.player)
