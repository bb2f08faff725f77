use Rattle.std.proofs.Common.{◌≡◌, ◌+◌, ◌-◌, ◌<◌, ◌^◌, ◌++◌, min, map, take, drop}
use Rattle.std.specs.Prelude.{sum_by}
use Rattle.link_group.specs.Ticking.{passed, due_at, all_due}
use Rattle.link_group.proofs.ticking.pass_all.Given as goal

abbrev pub invariant-loop-at : goal.invariant-loop-at
invariant-loop-at l =
    (l.links ≡ map (passed l.ticks) (take l.at l.fn.links) ++ drop l.at l.fn.links)
    × (min (2 ^ 64 - 1) (l.due + sum_by (due_at l.ticks) (drop l.at l.fn.links)) ≡ all_due l.ticks l.fn.links)
    × (l.due < 2 ^ 64)
