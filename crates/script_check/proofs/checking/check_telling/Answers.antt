use Rattle.script_check.proofs.Prints.{refused_bytes, refusal_printed, of_refusal, pointed_printed}
use Rattle.script_check.proofs.checking.check_telling.Goals as goal

pub returns-clause-refused : goal.returns-clause-refused
returns-clause-refused g c two = refused_bytes _ c.in-Err.refusal.fault (of_refusal _ c.in-Err.refusal (c.in-Err.ensures.fault (c.refuse_set.ensures.refused two)))

pub returns-clause-refusal : goal.returns-clause-refusal
returns-clause-refusal g c two =
    refusal_printed _ _ _ c.in-Err.refusal.fault (c.refuse_set.ensures.refused two)
    (of_refusal _ c.in-Err.refusal (c.in-Err.ensures.fault (c.refuse_set.ensures.refused two)))
    (c.refuse_set.ensures.printed two)

pub returns-clause-pointed : goal.returns-clause-pointed
returns-clause-pointed g c two =
    pointed_printed _ _ _ _ _ _ c.in-Err.refusal (c.refuse_set.ensures.refused two) (c.in-Err.ensures.fault (c.refuse_set.ensures.refused two))
    (c.refuse_set.ensures.printed two) (c.refuse_set.ensures.told two)
