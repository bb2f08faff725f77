-- The units printed so far.
use Rattle.script_ends.specs.TermRuns.{last_of}
use Rattle.script_ends.proofs.TermRuns.{GivesOut}
use Rattle.script_ends.proofs.terminals.TermPlayer.print_units.Given as goal

abbrev pub invariant-loop-gone : goal.invariant-loop-gone
invariant-loop-gone g l =
    GivesOut l.gone (g.W.Write.contents l.initial.writer) (g.W.Write.contents l.writer) (last_of l.initial.self) (last_of l.self) l.initial.self.terminal
    l.self.terminal
