use Rattle.std.proofs.Common.{◌≡◌, length}
use Rattle.std.specs.Prelude.{◌==◌, not}
use Rattle.std.specs.List.{list_any}
use Rattle.m3ua_frames.specs.Numbers.{numbers_in}
use Rattle.m3ua_gateway.proofs.contexts.is_not_all.Given as goal

abbrev pub invariant-loop-number : goal.invariant-loop-number
invariant-loop-number l = list_any (λ n. not (n == l.context)) (numbers_in l.rest) ≡ list_any (λ n. not (n == l.context)) (numbers_in l.contexts)

abbrev pub decreases-loop-number : goal.decreases-loop-number
decreases-loop-number l = length l.rest
