use Rattle.mtp2_play.proofs.CheckedSets.{accepted, not_accepted}
use Rattle.mtp2_play.proofs.text.told.check_told.Goals as goal

pub returns-then-status-eq-DONE : goal.returns-then-status-eq-DONE
returns-then-status-eq-DONE g c =
    accepted _ _ _ _ _ _ c.as_bytes.ensures.value (c.check_telling-status.ensures.costs c.if-status-eq-DONE.true) c.add_warnings.ensures.asked c.add_warnings.ensures.counted
    c.add_warnings.ensures.clean c.add_warnings.ensures.status

pub returns-else-status-eq-DONE : goal.returns-else-status-eq-DONE
returns-else-status-eq-DONE g c =
    not_accepted _ _ _ _ _ _ c.as_bytes.ensures.value c.if-status-eq-DONE.false c.check_telling-status.ensures.refusal c.check_telling-status.ensures.status
