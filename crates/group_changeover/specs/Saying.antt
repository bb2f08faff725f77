-- Queries of the state of a link in a changeover (Q.704).
use Rattle.std.specs.Prelude.{ℕ, ◌&&◌, ◌||◌, nat_lt, nat_le, Bool, true, false, not, if◌then◌else◌}
use Rattle.std.specs.Prelude.{Option, Some, None, is_some}
use Rattle.group_changeover.specs.declared.changeover.Kind.{Kind}
use Rattle.group_changeover.specs.declared.changeover.Kind.TheVariants as kind
use Rattle.group_changeover.specs.declared.saying.Hearing.{Hearing}
use Rattle.group_changeover.specs.declared.saying.Hearing.TheVariants as hearing
use Rattle.group_changeover.specs.Limits.{T2, LATE}
use Rattle.group_changeover.specs.Availability.{changeover_begins}
use Rattle.group_changeover.specs.declared.availability.Answer.{Answer}
use Rattle.group_changeover.specs.declared.availability.Answer.TheVariants as answer
use Rattle.group_changeover.specs.declared.availability.Behind.{Behind}
use Rattle.group_changeover.specs.declared.availability.Behind.TheVariants as behind
use Rattle.group_changeover.specs.declared.availability.Changing.{Changing}
use Rattle.group_changeover.specs.declared.availability.Availability.{Availability}

-- a changeover of the link is under way
abbrev pub is_changing : Availability → Bool
is_changing m = is_some m.changing

-- its messages are handed out
abbrev pub is_out : Changing → Bool
is_out c = is_some c.retrieval

-- there is no answer yet, and the changeover still waits for one
abbrev pub is_waiting : Changing → Bool
is_waiting c = not (is_some c.answer) && nat_lt c.waited T2

-- how many of the messages that the link holds the far side accepted, if it reported that
abbrev pub count_in : Option Answer → Option ℕ
count_in None = None
count_in (Some answer.Unknown) = None
count_in (Some (answer.Accepted n)) = Some n

-- ---- orders after a changeover

abbrev pub is_out_behind : Behind → Bool
is_out_behind behind.Nothing = false
is_out_behind behind.Out = true
is_out_behind (behind.Back n) = false

abbrev pub is_late_behind : Behind → Bool
is_late_behind behind.Nothing = false
is_late_behind behind.Out = true
is_late_behind (behind.Back n) = nat_le n LATE

-- The changeover is over, and the link hasn't come into service again.
abbrev pub is_over : Availability → Bool
is_over m = not (is_changing m) && is_out_behind m.behind

-- The changeover is over, and the link hasn't come into service again, or did so last no more than
-- LATE ticks ago. An order that is received then may be a late one of that changeover.
abbrev pub is_late : Availability → Bool
is_late m = not (is_changing m) && is_late_behind m.behind

abbrev pub is_order : Kind → Bool
is_order (kind.Order fsn) = true
is_order (kind.Acknowledgement fsn) = false
is_order kind.EmergencyOrder = true
is_order kind.EmergencyAcknowledgement = false

-- the number in a message
abbrev pub number_in : Kind → Option ℕ
number_in (kind.Order fsn) = Some fsn
number_in (kind.Acknowledgement fsn) = Some fsn
number_in kind.EmergencyOrder = None
number_in kind.EmergencyAcknowledgement = None

-- An order begins a changeover if none is under way, unless it may be a late one.
abbrev pub begun_by_message : Kind → Availability → Availability
begun_by_message what m = if is_order what && not (is_late m) then changeover_begins m else m

-- Whether an order holds the link: it begins a changeover, or may be a late one for a link that
-- came into service again, or its answer has the link's number. So no message is accepted after
-- that number.
abbrev pub is_held_by : Kind → Availability → Bool
is_held_by what m =
    is_order what && not (is_over m)
    && (not (is_changing m) || is_some (number_in what) && not m.anew)

-- ---- the effect of a message

-- An acknowledgement counts while nothing is handed out, and while it isn't known how many messages
-- are accepted.
abbrev pub counts_in : Changing → Bool
counts_in c = not (is_out c) && not (is_some (count_in c.answer))

abbrev pub answer_heard : Option Changing → Hearing
answer_heard None = hearing.Answer
answer_heard (Some c) = if counts_in c then hearing.Counted else hearing.Answer

abbrev pub hearing_of : Kind → Availability → Hearing
hearing_of what m =
    if is_order what then (if is_late m || is_changing m then hearing.Order else hearing.Began)
    else answer_heard m.changing

-- ---- orders, acknowledgements and answers

-- An order for a link that was started anew is an emergency one: the numbers that it would report
-- are gone.
abbrev pub order_after : Availability → ℕ → Kind
order_after m accepted = if m.anew then kind.EmergencyOrder else kind.Order accepted

-- so is an acknowledgement, also one for a link out of service whose changeover is over
abbrev pub acknowledgement_after : Availability → ℕ → Kind
acknowledgement_after m accepted =
    if m.anew || is_over m then kind.EmergencyAcknowledgement else kind.Acknowledgement accepted

abbrev pub answer_by : Option ℕ → Answer
answer_by None = answer.Unknown
answer_by (Some n) = answer.Accepted n

-- The answer for this number of acknowledged messages, if it is known. It is unknown for a link
-- that was started anew.
abbrev pub answer_after : Availability → Option ℕ → Answer
answer_after m count = if m.anew then answer.Unknown else answer_by count

-- an order is answered, an emergency order by an emergency acknowledgement
abbrev pub reply_after : Kind → Availability → ℕ → Option Kind
reply_after (kind.Order fsn) m accepted = Some (acknowledgement_after m accepted)
reply_after (kind.Acknowledgement fsn) m accepted = None
reply_after kind.EmergencyOrder m accepted = Some kind.EmergencyAcknowledgement
reply_after kind.EmergencyAcknowledgement m accepted = None
