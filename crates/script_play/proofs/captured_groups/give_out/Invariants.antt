-- The signal units sent so far.
use Rattle.std.proofs.Common.{◌≡◌}
use Rattle.script_seen.specs.GroupRuns.{last_of}
use Rattle.script_play.proofs.SetOutGoing.{SetOutGoing}
use Rattle.script_play.proofs.captured_groups.give_out.Given as goal

abbrev pub invariant-loop-gone : goal.invariant-loop-gone
invariant-loop-gone g l =
    SetOutGoing l.initial.player.on l.at l.gone (g.W.Write.contents l.initial.writer) (g.W.Write.contents l.writer) (last_of l.initial.player) (last_of l.player)
    (g.T.Write.contents l.initial.out) (g.T.Write.contents l.out) l.initial.player.group l.player.group l.initial.link l.link
    × (l.player.on ≡ l.initial.player.on)
