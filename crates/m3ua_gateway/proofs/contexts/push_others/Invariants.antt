use Rattle.std.proofs.Common.{◌≡◌, ◌+◌, ◌≤◌, ◌++◌, length}
use Rattle.std.specs.Prelude.{◌==◌, not}
use Rattle.std.specs.List.{filter, flat_map}
use Rattle.m3ua_frames.specs.Numbers.{numbers_in, octets_4}
use Rattle.m3ua_gateway.proofs.contexts.push_others.Given as goal

abbrev pub invariant-loop-number : goal.invariant-loop-number
invariant-loop-number l =
    (l.octets.items ++ flat_map octets_4 (filter (λ n. not (n == l.context)) (numbers_in l.rest)) ≡ l.initial.octets.items ++ flat_map octets_4 (filter (λ n. not (n == l.context)) (numbers_in l.contexts)))
    × (length l.octets.items + length l.rest ≤ 4096)

abbrev pub decreases-loop-number : goal.decreases-loop-number
decreases-loop-number l = length l.rest
