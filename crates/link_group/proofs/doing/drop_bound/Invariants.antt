use Rattle.std.proofs.Common.{◌≡◌, ◌≤◌, length}
use Rattle.link_term.specs.Kept.{window_of}
use Rattle.link_group.proofs.Renewing.{left_from}
use Rattle.link_group.proofs.doing.drop_bound.Given as goal

abbrev pub invariant-loop-place : goal.invariant-loop-place
invariant-loop-place l =
    (l.terminal ≡ left_from l.points l.place l.fn.terminal)
    × (l.place ≤ length (window_of l.fn.terminal).kept)
    × ((window_of l.fn.terminal).sent ≤ l.place)
    × (l.sent ≡ (window_of l.fn.terminal).sent)

abbrev pub decreases-loop-place : goal.decreases-loop-place
decreases-loop-place l = l.place
