-- The commands so far were obeyed and traced.
use Rattle.std.proofs.Common.{map, take}
use Rattle.script_lines.specs.Lines.{plain_line}
use Rattle.script_links.specs.GroupScripts.{plain_group_said}
use Rattle.script_ends.specs.GroupRuns.{playing_of, last_of}
use Rattle.script_seen.proofs.SetTraces.{SetGoing}
use Rattle.script_seen.proofs.traced_groups.trace_each.Given as goal

abbrev pub invariant-loop-said : goal.invariant-loop-said
invariant-loop-said g l =
    SetGoing (map plain_line l.lines) (playing_of l.initial.player) (map plain_group_said (take l.said-index l.commands)) (last_of l.initial.player)
    (g.W.Write.contents l.initial.writer) (g.W.Write.contents l.writer) (g.T.Write.contents l.initial.trace) (g.T.Write.contents l.trace) (playing_of l.player)
    (last_of l.player) l.initial.tracers l.tracers
