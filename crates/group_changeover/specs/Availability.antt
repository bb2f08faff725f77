-- The state that a link set keeps for each of its links.
use Rattle.std.specs.Prelude.{ℕ, ◌+◌, ◌-◌, ◌^◌, ◌||◌, Bool, true, false, min, List, Option, Some}
use Rattle.std.specs.Prelude.{None}
use Rattle.group_changeover.specs.declared.availability.Availability.{Availability}
use Rattle.group_changeover.specs.declared.availability.Changing.{Changing}
use Rattle.group_changeover.specs.declared.availability.Answer.{Answer}
use Rattle.group_changeover.specs.declared.availability.Answer.TheVariants as answer
use Rattle.group_changeover.specs.declared.availability.Behind.{Behind}
use Rattle.group_changeover.specs.declared.availability.Behind.TheVariants as behind

-- a changeover that has just begun
abbrev pub just_begun : Changing
just_begun = record { answer = None; waited = 0; retrieval = None }

-- A changeover of the link begins: from then on it is a failed link.
abbrev pub begun : Availability → Availability
begun m = record m { failed = true; behind = behind.Out; changing = Some just_begun }

abbrev pub begun_by : Option Changing → Availability → Availability
begun_by None m = begun m
begun_by (Some c) m = m

-- a changeover begins, unless one is under way
abbrev pub changeover_begins : Availability → Availability
changeover_begins m = begun_by m.changing m

-- The first answer with a number of accepted messages counts. An answer without a number counts
-- only until there is one with a number.
abbrev pub first_known : Option Answer → Answer → Answer
first_known None a = a
first_known (Some answer.Unknown) a = a
first_known (Some (answer.Accepted n)) a = answer.Accepted n

-- An answer doesn't count while a retrieval is out.
abbrev pub told_by : Option (List ℕ) → Answer → Changing → Changing
told_by None a c = record c { answer = Some (first_known c.answer a) }
told_by (Some counts) a c = c

abbrev pub told_in : Option Changing → Answer → Option Changing
told_in None a = None
told_in (Some c) a = Some (told_by c.retrieval a c)

-- An answer changes nothing if no changeover is under way.
abbrev pub told : Answer → Availability → Availability
told a m = record m { changing = told_in m.changing a }

-- So many of the messages that the link holds have left, from the front: the answer is reduced by
-- as many.
abbrev pub fewer_by : ℕ → Option Answer → Option Answer
fewer_by n None = None
fewer_by n (Some answer.Unknown) = Some answer.Unknown
fewer_by n (Some (answer.Accepted m)) = Some (answer.Accepted (m - n))

abbrev pub fewer_in : ℕ → Option Changing → Option Changing
fewer_in n None = None
fewer_in n (Some c) = Some (record c { answer = fewer_by n c.answer })

abbrev pub fewer : ℕ → Availability → Availability
fewer n m = record m { changing = fewer_in n m.changing }

-- Ticks since a changeover began are counted; the count stays at its greatest value.
abbrev pub waited_in : ℕ → Option Changing → Option Changing
waited_in n None = None
waited_in n (Some c) = Some (record c { waited = min (2 ^ 64 - 1) (c.waited + n) })

-- So are the ticks since a link last came into service after the beginning of a changeover.
abbrev pub waited_behind : ℕ → Behind → Behind
waited_behind n behind.Nothing = behind.Nothing
waited_behind n behind.Out = behind.Out
waited_behind n (behind.Back m) = behind.Back (min (2 ^ 64 - 1) (m + n))

abbrev pub waits : ℕ → Availability → Availability
waits n m = record m { behind = waited_behind n m.behind; changing = waited_in n m.changing }

-- A retrieval, or what is left of it, goes to the caller, with so many messages of each selection.
abbrev pub retrieval_in : List ℕ → Option Changing → Option Changing
retrieval_in counts None = None
retrieval_in counts (Some c) = Some (record c { retrieval = Some counts })

abbrev pub with_retrieval : List ℕ → Availability → Availability
with_retrieval counts m = record m { changing = retrieval_in counts m.changing }

-- The changeover ends. The link is still a failed link.
abbrev pub ended : Availability → Availability
ended m = record m { changing = None }

-- After the beginning of a changeover each return to service restarts the count of ticks.
abbrev pub back_again : Behind → Behind
back_again behind.Nothing = behind.Nothing
back_again behind.Out = behind.Back 0
back_again (behind.Back n) = behind.Back 0

-- The link comes into service.
abbrev pub serves : Availability → Availability
serves m = record m { anew = false; behind = back_again m.behind }

-- The link may carry selections, or may not. `served` is set from the first time that it may.
abbrev pub takes_part : Bool → Availability → Availability
takes_part may m = record m { served = m.served || may }

-- Level 3 admits the link, or no longer does.
abbrev pub admits : Bool → Availability → Availability
admits way m = record m { admitted = way }
