-- How the refusals and faults of a pool are printed.
use Rattle.std.specs.Prelude.{ℕ, List, ◌++◌, codes}
use Rattle.std.specs.Fmt.{decimal}
use Rattle.actor_machine.specs.Printed.{refusal_text}
use Rattle.turn_pool.specs.declared.closed.Mismatch.{Mismatch}
use Rattle.turn_pool.specs.declared.fault.PoolFault.{PoolFault}
use Rattle.turn_pool.specs.declared.fault.PoolFault.TheVariants.{NoWorkers, NoMemory}
use Rattle.turn_pool.specs.declared.receipt.PoolRefusal.{PoolRefusal}
use Rattle.turn_pool.specs.declared.receipt.PoolRefusal.TheVariants as refusal

abbrev pub fault_text : PoolFault → List ℕ
fault_text (NoWorkers books) = codes "G1 NoWorkers"
fault_text (NoMemory books) = codes "NoMemory"

-- a book's refusals are printed by their own names, as in a script's answers
abbrev pub pool_refusal_text : PoolRefusal → List ℕ
pool_refusal_text refusal.NoLink = codes "B10 NoActor"
pool_refusal_text refusal.Closing = codes "G2 Closing"
pool_refusal_text refusal.NoMemory = codes "NoMemory"
pool_refusal_text (refusal.Refused r) = refusal_text r

abbrev pub mismatch_text : Mismatch → List ℕ
mismatch_text m = codes "G3 Mismatch " ++ decimal m.position
