use Rattle.std.proofs.Common.{refl}
use Rattle.script_check.proofs.sets.with_limits.Goals as goal

pub returns-in-Ok-clause-set : goal.returns-in-Ok-clause-set
returns-in-Ok-clause-set c = record { is_set = c.requires; limits = c.in-Ok.ensures.read }

pub returns-in-Err-clause-fault : goal.returns-in-Err-clause-fault
returns-in-Err-clause-fault c = λ judged. judged.memory refl
