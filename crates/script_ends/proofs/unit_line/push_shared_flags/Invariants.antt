-- The flags appended so far.
use Rattle.std.proofs.Common.{◌≡◌, ◌++◌}
use Rattle.script_ends.specs.UnitLines.{shared_flags}
use Rattle.script_ends.proofs.unit_line.push_shared_flags.Given as goal

abbrev pub invariant-loop-shared : goal.invariant-loop-shared
invariant-loop-shared l = l.line.items ≡ l.initial.line.items ++ shared_flags l.shared
