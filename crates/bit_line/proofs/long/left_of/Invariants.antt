use Rattle.std.proofs.Common.{◌≡◌, ℕ, ◌+◌, ◌<◌, ◌≤◌, ◌^◌}
use Rattle.std.specs.Int.{bit_at}
use Rattle.bit_line.proofs.LongLaws.{Gone}
use Rattle.bit_line.proofs.long.left_of.Given as goal

abbrev pub invariant-loop-fives : goal.invariant-loop-fives
invariant-loop-fives l = record {
  gone : Gone l.len l.bits l.count l.taken l.left l.rest;
  few : l.count + l.left ≤ l.len;
  taken_fits : l.taken < 2 ^ l.count;
  rest_fits : l.rest < 2 ^ l.left;
  set : (j : ℕ) → ((s : ℕ) → s < 5 → bit_at l.rest (s + j) ≡ 1) → bit_at l.fives j ≡ 1;
}

abbrev pub decreases-loop-fives : goal.decreases-loop-fives
decreases-loop-fives l = l.left
