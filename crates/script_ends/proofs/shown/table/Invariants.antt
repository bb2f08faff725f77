-- The entries appended so far.
use Rattle.std.proofs.Common.{◌≡◌}
use Rattle.script_ends.specs.Shown.{entries_to}
use Rattle.script_ends.proofs.shown.table.Given as goal

abbrev pub invariant-loop-before : goal.invariant-loop-before
invariant-loop-before l = l.text.items ≡ entries_to l.group.table l.before
