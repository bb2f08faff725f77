-- The signal units sent so far.
use Rattle.script_seen.specs.TermRuns.{last_of}
use Rattle.script_play.proofs.OutGoing.{OutGoing}
use Rattle.script_play.proofs.captured_terminals.give_out.Given as goal

abbrev pub invariant-loop-gone : goal.invariant-loop-gone
invariant-loop-gone g l =
    OutGoing l.at l.gone (g.W.Write.contents l.initial.writer) (g.W.Write.contents l.writer) (last_of l.initial.player) (last_of l.player)
    (g.T.Write.contents l.initial.out) (g.T.Write.contents l.out) l.initial.player.terminal l.player.terminal l.initial.link l.link
