use Rattle.std.proofs.Common.{◌≡◌, length}
use Rattle.std.specs.Prelude.{◌==◌}
use Rattle.std.specs.List.{list_any}
use Rattle.m3ua_frames.specs.Numbers.{numbers_in}
use Rattle.m3ua_gateway.proofs.contexts.is_in.Given as goal

abbrev pub invariant-loop-number : goal.invariant-loop-number
invariant-loop-number l = list_any (λ n. n == l.context) (numbers_in l.rest) ≡ list_any (λ n. n == l.context) (numbers_in l.contexts)

abbrev pub decreases-loop-number : goal.decreases-loop-number
decreases-loop-number l = length l.rest
