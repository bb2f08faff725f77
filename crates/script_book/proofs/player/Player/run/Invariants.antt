-- The commands so far were obeyed.
use Rattle.std.proofs.Common.{◌++◌, ℕ, List, Option, map, take}
use Rattle.actor_machine.specs.Ledger.{Ledger}
use Rattle.script_lines.specs.Scripts.{PlainSaid, plain_said}
use Rattle.script_book.specs.Played.{last_of, IsRun}
use Rattle.script_book.proofs.player.Player.run.Given as goal

abbrev pub invariant-loop-said : goal.invariant-loop-said
invariant-loop-said g l =
    (b : Ledger) (before : List PlainSaid) (first : Option (List ℕ))
    → IsRun b before first (g.W.Write.contents l.initial.writer) l.initial.self.book (last_of l.initial.self)
    → IsRun b (before ++ map plain_said (take l.said-index l.commands)) first (g.W.Write.contents l.writer) l.self.book (last_of l.self)
