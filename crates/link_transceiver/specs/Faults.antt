-- The faults of the last three units that went through the stores (Q.703, 5.3: abnormal backward
-- sequence numbers and abnormal forward indicator bits).
use Rattle.std.specs.Prelude.{◌||◌, nat_le, Bool, true, false, Option, Some, None, List, [], ◌∷◌}
use Rattle.std.specs.Prelude.{take, count_by}
use Rattle.link_transceiver.specs.declared.faults.Fault.{Fault}
use Rattle.link_transceiver.specs.declared.faults.Fault.TheVariants.{AbnormalBsn, AbnormalFib}

abbrev pub is_abnormal_bsn : Option Fault → Bool
is_abnormal_bsn (Some AbnormalBsn) = true
is_abnormal_bsn (Some AbnormalFib) = false
is_abnormal_bsn None = false

abbrev pub is_abnormal_fib : Option Fault → Bool
is_abnormal_fib (Some AbnormalBsn) = false
is_abnormal_fib (Some AbnormalFib) = true
is_abnormal_fib None = false

-- no faults: there were no units yet
abbrev pub no_faults : List (Option Fault)
no_faults = None ∷ None ∷ None ∷ []

-- the last three units' faults, the newest first, after a further unit
abbrev pub with_newest : Option Fault → List (Option Fault) → List (Option Fault)
with_newest fault faults = take 3 (fault ∷ faults)

-- whether two of the units had one kind of fault, or two the other
unfoldable pub is_failing : List (Option Fault) → Bool
is_failing faults =
    nat_le 2 (count_by is_abnormal_bsn faults) || nat_le 2 (count_by is_abnormal_fib faults)
