-- The variables written so far, and those still to write.
use Rattle.std.proofs.Common.{◌≡◌, ◌++◌, drop}
use Rattle.script_seen.specs.Told.{changes_text}
use Rattle.script_seen.proofs.turns.push_changes.Given as goal

abbrev pub invariant-loop-number : goal.invariant-loop-number
invariant-loop-number l =
    l.line.items ++ changes_text l.set l.process.0 l.before l.number (drop l.number l.after)
    ≡ l.initial.line.items ++ changes_text l.set l.process.0 l.before 0 l.after
