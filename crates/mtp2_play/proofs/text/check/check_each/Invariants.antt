use Rattle.std.proofs.Common.{◌≡◌, ◌⊎◌}
use Rattle.mtp2_play.proofs.text.check.check_each.Given as goal

abbrev pub invariant-loop-set : goal.invariant-loop-set
invariant-loop-set g l = (l.status ≡ 0) ⊎ (l.status ≡ 1) ⊎ (l.status ≡ 2) ⊎ (l.status ≡ 4)
