use Rattle.std.proofs.Common.{◌≡◌, ◌++◌, replicate}
use Rattle.m3ua_frames.proofs.numbers.push_zeros.Given as goal

abbrev pub invariant-loop : goal.invariant-loop
invariant-loop g l = l.octets.items ≡ l.initial.octets.items ++ replicate l.counter 0
