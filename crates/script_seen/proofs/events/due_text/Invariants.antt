-- The timers written so far, and those still to write.
use Rattle.std.proofs.Common.{◌≡◌, ◌++◌, drop, map}
use Rattle.std.specs.List.{flat_map}
use Rattle.actor_machine.specs.Ledger.{state_of}
use Rattle.plain_text.specs.Lines.{line_of}
use Rattle.script_seen.specs.Told.{due_line}
use Rattle.script_seen.proofs.events.due_text.Given as goal

abbrev pub invariant-loop-one : goal.invariant-loop-one
invariant-loop-one l =
    l.text.items ++ flat_map line_of (map (due_line l.book.set (state_of l.book) l.clock) (drop l.one-index l.due))
    ≡ flat_map line_of (map (due_line l.book.set (state_of l.book) l.clock) l.due)
