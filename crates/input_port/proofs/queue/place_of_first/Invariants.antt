use Rattle.std.proofs.Common.{◌≡◌, ◌++◌, take, drop}
use Rattle.input_port.specs.Saves.{saves}
use Rattle.input_port.specs.Queue.{first_unsaved, without_first}
use Rattle.input_port.proofs.queue.place_of_first.Given as goal

abbrev pub invariant-loop-place : goal.invariant-loop-place
invariant-loop-place l = record {
  first : first_unsaved (saves l.saved) (drop l.place l.items.items) ≡ first_unsaved (saves l.saved) l.items.items;
  left : take l.place l.items.items ++ without_first (saves l.saved) (drop l.place l.items.items) ≡ without_first (saves l.saved) l.items.items;
}
