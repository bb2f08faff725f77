-- Limits of a terminal's transceiver.
use Rattle.std.specs.Prelude.{ℕ, ◌-◌, ◌^◌}

-- the code of the status 'busy' (Q.703, 11.1.3)
abbrev pub BUSY_CODE : ℕ
BUSY_CODE = 5

-- how many accepted messages are kept until they are handed out (this profile's limit)
abbrev pub KEPT_MESSAGES : ℕ
KEPT_MESSAGES = 256

-- the greatest count of cleared messages: the count stops there
abbrev pub MOST_COUNTED : ℕ
MOST_COUNTED = 2 ^ 64 - 1

-- how many statuses are kept, the latest ones (this profile's limit)
abbrev pub KEPT_STATUSES : ℕ
KEPT_STATUSES = 64
