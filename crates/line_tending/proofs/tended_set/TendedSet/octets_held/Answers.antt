use Rattle.std.proofs.Common.{arith}
use Rattle.line_tending.proofs.Filling.{sum_more}
use Rattle.line_tending.proofs.tended_set.TendedSet.octets_held.Goals as goal

pub loop-place-preserved : goal.loop-place-preserved
loop-place-preserved c = omega (arith, c.saturating_add-octets.ensures, sum_more _ _ _ _ c.loop-place.invariant c.octets_at.ensures)
