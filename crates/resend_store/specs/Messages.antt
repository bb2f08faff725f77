-- Messages as signal units carry them.
use Rattle.std.specs.Prelude.{ℕ, ◌+◌, ◌≤◌, ◌&&◌, ◌||◌, nat_le, nat_lt, Bool, if◌then◌else◌}
use Rattle.std.specs.Prelude.{Option, Some, None, List, length, sum_by}
use Rattle.resend_store.specs.declared.messages.Msu.{Msu}
use Rattle.resend_store.specs.declared.messages.RoundLimits.{RoundLimits}
use Rattle.resend_store.specs.Limits.{N1, N2, LEAST_N2}

-- a signalling information field has 2 to 272 octets
pub record IsMessage (m : Msu) : Type 0 where
  pub long : 2 ≤ length m.sif.items
  pub fits : length m.sif.items ≤ 272

-- the octets of a message that count for the limits of cyclic retransmission: SIO and SIF
abbrev pub octets_of : Msu → ℕ
octets_of m = length m.sif.items + 1

abbrev pub octets : List Msu → ℕ
octets ms = sum_by octets_of ms

-- the default limits
abbrev pub usual_limits : RoundLimits
usual_limits = record { messages = N1; octets = N2 }

-- the limits that may be chosen: 1 to 127 messages, and 300 to 8,192 octets
abbrev pub chosen_limits : ℕ → ℕ → Option RoundLimits
chosen_limits messages octets =
    if (nat_le 1 messages && nat_le messages N1) && (nat_le LEAST_N2 octets && nat_le octets N2)
    then Some (record { messages = messages; octets = octets }) else None

-- whether so many messages, or octets of them, are unacknowledged that they must go out again;
-- never if there are none
abbrev pub reaches_limit : RoundLimits → List Msu → Bool
reaches_limit limits ms =
    nat_lt 0 (length ms)
    && (nat_le limits.messages (length ms) || nat_le limits.octets (octets ms))
