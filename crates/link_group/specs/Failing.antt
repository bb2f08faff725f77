-- Changeover at one link (Q.704): how it begins, the messages about it, and which messages are
-- retrieved.
use Rattle.std.specs.Prelude.{ℕ, if◌then◌else◌, List, [], Option, Some, None}
use Rattle.resend_store.specs.declared.messages.Msu.{Msu}
use Rattle.link_transceiver.specs.declared.signals.Hold.TheVariants as hold
use Rattle.group_changeover.specs.declared.availability.Availability.{Availability}
use Rattle.group_changeover.specs.declared.changeover.Kind.{Kind}
use Rattle.group_changeover.specs.declared.saying.Hearing.{Hearing}
use Rattle.group_changeover.specs.declared.saying.Hearing.TheVariants as hearing
use Rattle.group_changeover.specs.Availability.{changeover_begins, told}
use Rattle.group_changeover.specs.Saying.{begun_by_message, hearing_of, is_held_by, number_in}
use Rattle.group_changeover.specs.Saying.{order_after, answer_after, reply_after}
use Rattle.link_group.specs.declared.link.Link.{Link}
use Rattle.group_changeover.specs.declared.errors.FailError.{FailError}
use Rattle.group_changeover.specs.declared.errors.FailError.TheVariants as fail
use Rattle.link_group.specs.OneLink.{window, accepted_at, is_changing, with_availability}
use Rattle.link_group.specs.OneLink.{count_told, accepted_of, unknown, handed_by, hands_out}
use Rattle.link_group.specs.OneLink.{with_hold, hold_by}

abbrev pub fail_fault_of : Link → Option FailError
fail_fault_of k = if is_changing k then Some fail.Waiting else None

-- From the beginning of its changeover the link is held.
abbrev pub changeover_begins_at : Link → Link
changeover_begins_at k =
    with_availability (changeover_begins k.availability) (with_hold hold.Kept k)

abbrev pub order_of : Link → Kind
order_of k = order_after k.availability (accepted_at k)

-- how many held messages the number of a changeover message acknowledges when it is heard
abbrev pub count_heard : Kind → Link → Option ℕ
count_heard what k = count_told (window k) (number_in what)

-- An order begins the changeover if none goes on, unless it may be a late one. Like an
-- acknowledgement, it is also an answer.
abbrev pub marked : Kind → Link → Availability
marked what k =
    told (answer_after k.availability (count_heard what k)) (begun_by_message what k.availability)

abbrev pub hears : Kind → Link → Link
hears what k =
    with_availability (marked what k)
    (if is_held_by what k.availability then with_hold (hold_by (marked what k).changing) k else k)

abbrev pub replies : Kind → Link → Option Kind
replies what k = reply_after what k.availability (accepted_at k)

-- a link's answer, if the link exists
abbrev pub replies_at : Kind → Option Link → Option Kind
replies_at what None = None
replies_at what (Some k) = replies what k

-- how a message counted, if the link exists
abbrev pub heard_at : Kind → Option Link → Hearing
heard_at what None = hearing.Nothing
heard_at what (Some k) = hearing_of what k.availability

abbrev pub handed : Link → Link
handed k = hands_out (accepted_of k) k

abbrev pub messages_by : (Link → Option ℕ) → Option Link → List Msu
messages_by f None = []
messages_by f (Some k) = handed_by k (f k)

abbrev pub given_up : Link → Link
given_up k = hands_out None k

-- how many messages not bound to the link are unacknowledged
abbrev pub sent_by : Option Link → ℕ
sent_by None = 0
sent_by (Some k) = unknown k

abbrev pub none_known : Link → Option ℕ
none_known k = None
