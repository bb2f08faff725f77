-- Limits of a sender.
use Rattle.std.specs.Prelude.{ℕ}

-- how many messages may be sent and not acknowledged: sequence numbers run modulo 128 (Q.703, 5 and
-- 6)
abbrev pub MOST_UNACKNOWLEDGED : ℕ
MOST_UNACKNOWLEDGED = 127

-- with this number of waiting messages, `put` takes no more (a choice of this profile)
abbrev pub MOST_WAITING : ℕ
MOST_WAITING = 1024

-- unacknowledged and waiting messages together: 127 and 1,024
abbrev pub MOST_KEPT : ℕ
MOST_KEPT = 1151

-- the default number of unacknowledged messages that force retransmission (Q.703, 6.4; the value is
-- a choice of this profile)
abbrev pub N1 : ℕ
N1 = 127

-- as `N1`, for unacknowledged octets of SIO and SIF
abbrev pub N2 : ℕ
N2 = 8192

-- the least N2 that may be chosen: a single message of the greatest length doesn't reach it
abbrev pub LEAST_N2 : ℕ
LEAST_N2 = 300
