-- The commands so far were obeyed and echoed.
use Rattle.std.proofs.Common.{◌≡◌, None, map, take}
use Rattle.script_lines.specs.Lines.{plain_line}
use Rattle.script_links.specs.GroupScripts.{plain_group_said}
use Rattle.script_ends.specs.GroupRuns.{playing_of, last_of}
use Rattle.script_seen.specs.Kinds.{GroupShowing}
use Rattle.script_seen.proofs.groups.show_each.Given as goal

abbrev pub invariant-loop-said : goal.invariant-loop-said
invariant-loop-said g l =
    last_of l.initial.player ≡ None
    → GroupShowing (map plain_line l.lines) (playing_of l.initial.player) (map plain_group_said (take l.said-index l.commands)) (g.W.Write.contents l.initial.writer)
    (g.W.Write.contents l.writer) l.printed.items (playing_of l.player) (last_of l.player)
