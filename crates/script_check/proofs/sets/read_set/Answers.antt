use Rattle.script_check.proofs.Long.{set_read, set_passed, fault_placed_read}
use Rattle.script_check.proofs.sets.read_set.Goals as goal

pub returns-in-Ok-clause-set : goal.returns-in-Ok-clause-set
returns-in-Ok-clause-set g c = set_passed _ _ _ c.pointed_set.ensures.set (set_read _ _ c.in-Ok.read c.in-Ok.ensures c.set_in-loaded.ensures.set)

pub returns-in-Ok-clause-fault : goal.returns-in-Ok-clause-fault
returns-in-Ok-clause-fault g c =
    fault_placed_read _ _ _ c.in-Ok.read _ c.deref.ensures.value c.in-Ok.ensures c.pointed_set.ensures.fault c.set_in-loaded.ensures.fault
