use Rattle.std.proofs.Common.{◌≡◌, ◌≤◌, ◌+◌, ◌++◌, map, vec_len, vec_capacity}
use Rattle.std.specs.Vec.Iter.{into_iter_len, into_iter_items}
use Rattle.link_group.specs.New.{fresh}
use Rattle.link_group.proofs.new.all_fresh.Given as goal

abbrev pub invariant-loop-terminal : goal.invariant-loop-terminal
invariant-loop-terminal l =
    let left = l.terminal-iterator in
    (l.links.items ++ map (fresh l.points) (into_iter_items left) ≡ map (fresh l.points) l.fn.terminals.items)
    × (vec_len l.links + into_iter_len left ≤ vec_capacity l.links)
