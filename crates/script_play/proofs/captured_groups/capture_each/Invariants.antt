-- The commands so far were obeyed and captured.
use Rattle.std.proofs.Common.{map, take}
use Rattle.script_links.specs.GroupScripts.{plain_group_said}
use Rattle.script_seen.specs.GroupRuns.{playing_of, last_of}
use Rattle.script_play.proofs.SetCaptures.{SetGoing}
use Rattle.script_play.proofs.captured_groups.capture_each.Given as goal

abbrev pub invariant-loop-said : goal.invariant-loop-said
invariant-loop-said g l =
    SetGoing (playing_of l.initial.player) (map plain_group_said (take l.said-index l.commands)) (last_of l.initial.player) (g.W.Write.contents l.initial.writer)
    (g.W.Write.contents l.writer) (g.T.Write.contents l.initial.out) (g.T.Write.contents l.out) (playing_of l.player) (last_of l.player) l.initial.links l.links
