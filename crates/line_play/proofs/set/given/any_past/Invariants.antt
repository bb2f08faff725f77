use Rattle.std.proofs.Common.{◌≡◌, ℕ, false, nat_le}
use Rattle.std.specs.Prelude.{take}
use Rattle.std.specs.List.{list_any}
use Rattle.line_play.proofs.set.given.any_past.Given as goal

abbrev pub invariant-loop-link : goal.invariant-loop-link
invariant-loop-link l = list_any (λ (n : ℕ). nat_le l.count n) (take l.link-index l.links) ≡ false
