use Rattle.std.proofs.Common.{refl}
use Rattle.line_tending.proofs.Doing.{heeded_one, adds_heeded_then}
use Rattle.line_tending.proofs.tended_set.TendedSet.heed_link.Goals as goal

pub loop-report-preserved : goal.loop-report-preserved
loop-report-preserved c = λ first h.
    heeded_one first _ _ _ _ (c.loop-report.invariant first h) c.in-Some.ensures.some c.in_ok-heed-in-Some.ensures

pub returns-in-None-clause-adds : goal.returns-in-None-clause-adds
returns-in-None-clause-adds c = λ first h. adds_heeded_then first _ _ (c.loop-report.invariant first h) (c.in-None.ensures.none refl)

pub returns-in-None-clause-told : goal.returns-in-None-clause-told
returns-in-None-clause-told c = c.in-None.ensures.told refl
