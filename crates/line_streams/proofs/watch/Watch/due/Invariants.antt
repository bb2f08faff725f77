-- None so far may come.
use Rattle.std.proofs.Common.{◌≡◌, false, take}
use Rattle.std.specs.List.{list_any}
use Rattle.line_streams.specs.Watching.{may_come}
use Rattle.line_streams.proofs.watch.Watch.due.Given as goal

abbrev pub invariant-loop-place : goal.invariant-loop-place
invariant-loop-place l = list_any (may_come l.now) (take l.place l.self.ends.items) ≡ false
