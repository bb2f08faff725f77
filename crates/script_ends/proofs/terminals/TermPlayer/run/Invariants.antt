-- The commands so far were obeyed.
use Rattle.std.proofs.Common.{◌++◌, ℕ, List, Option, map, take}
use Rattle.link_term.specs.Term.{Term}
use Rattle.script_links.specs.TermScripts.{PlainTermSaid, plain_term_said}
use Rattle.script_ends.specs.TermRuns.{last_of, IsTermRun}
use Rattle.script_ends.proofs.terminals.TermPlayer.run.Given as goal

abbrev pub invariant-loop-said : goal.invariant-loop-said
invariant-loop-said g l =
    (t : Term) (before : List PlainTermSaid) (first : Option (List ℕ))
    → IsTermRun l.keeps t before first (g.W.Write.contents l.initial.writer) l.initial.self.terminal (last_of l.initial.self)
    → IsTermRun l.keeps t (before ++ map plain_term_said (take l.said-index l.commands)) first (g.W.Write.contents l.writer) l.self.terminal (last_of l.self)
