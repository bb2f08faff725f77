-- Changeover of a failed link (Q.704): how it begins, the messages about it, and which messages are
-- retrieved.
use Rattle.std.specs.Prelude.{ℕ, ◌+◌, ◌^◌, ◌-◌, ◌==◌, ◌&&◌, min, Bool, if◌then◌else◌, List, ◌++◌}
use Rattle.std.specs.Prelude.{Option, Some, None, slice_get}
use Rattle.arrayvec.specs.ArrayVec.{ArrayVec}
use Rattle.resend_store.specs.declared.messages.Msu.{Msu}
use Rattle.group_changeover.specs.declared.changeover.Changeover.{Changeover}
use Rattle.group_changeover.specs.declared.changeover.Kind.{Kind}
use Rattle.group_changeover.specs.declared.changeover.Kind.TheVariants as kind
use Rattle.group_changeover.specs.declared.saying.Hearing.{Hearing}
use Rattle.group_changeover.specs.declared.saying.Hearing.TheVariants as hearing
use Rattle.group_changeover.specs.Changeovers.{Reads, Says}
use Rattle.link_group.specs.declared.link.Link.{Link}
use Rattle.group_changeover.specs.declared.errors.FailError.{FailError}
use Rattle.group_changeover.specs.declared.errors.FailError.TheVariants as fail
use Rattle.group_changeover.specs.declared.errors.RetrieveError.{RetrieveError}
use Rattle.group_changeover.specs.declared.errors.RetrieveError.TheVariants as retrieve
use Rattle.group_changeover.specs.declared.errors.AbandonError.{AbandonError}
use Rattle.group_changeover.specs.declared.errors.AbandonError.TheVariants as abandon
use Rattle.link_group.specs.OneLink.{retrieve_fault, accepted_of, abandon_fault}
use Rattle.link_group.specs.Gone.{acknowledged, unsure, told_front, unacknowledged_at}
use Rattle.link_group.specs.Set.{LinkSet}
use Rattle.link_group.specs.Links.{change, fault_at}
use Rattle.link_group.specs.Failing.{fail_fault_of, changeover_begins_at, order_of, hears}
use Rattle.link_group.specs.Failing.{heard_at}
use Rattle.link_group.specs.Failing.{replies_at, handed, messages_by, given_up, sent_by}
use Rattle.link_group.specs.Failing.{none_known}

-- ---- a link fails

-- K1 without the link, K2 if its changeover goes on
unfoldable pub fail_fault : LinkSet → ℕ → Option FailError
fail_fault c l = fault_at fail.NoLink fail_fault_of (slice_get c.links l)

unfoldable pub after_failure : LinkSet → ℕ → LinkSet
after_failure c l = record c { links = change c.links l changeover_begins_at }

-- a changeover message from one point to another about a link
abbrev pub message : ℕ → ℕ → ℕ → Kind → Changeover
message from to l what = record { label = record { dpc = to; opc = from; sls = l }; kind = what }

abbrev pub to_peer : LinkSet → ℕ → Kind → Changeover
to_peer c l what = message c.own c.peer l what

abbrev pub order_by : LinkSet → ℕ → Option Link → Changeover
order_by c l None = to_peer c l kind.EmergencyOrder
order_by c l (Some k) = to_peer c l (order_of k)

-- the order for an existing link
unfoldable pub order_at : LinkSet → ℕ → Changeover
order_at c l = order_by c l (slice_get c.links l)

-- ---- messages about it from the other point

-- whether a message is from the other point to this one
abbrev pub is_for : LinkSet → Changeover → Bool
is_for c m = (m.label.dpc == c.own) && (m.label.opc == c.peer)

-- Other messages, those about a missing link, and octets that are no message change nothing.
abbrev pub after_message : LinkSet → Option Changeover → LinkSet
after_message c None = c
after_message c (Some m) =
    if is_for c m then record c { links = change c.links m.label.sls (hears m.kind) } else c

-- how the message counted
abbrev pub hearing_of : LinkSet → Option Changeover → Hearing
hearing_of c None = hearing.Nothing
hearing_of c (Some m) =
    if is_for c m then heard_at m.kind (slice_get c.links m.label.sls) else hearing.Nothing

abbrev pub reply_by : LinkSet → ℕ → Option Kind → Option Changeover
reply_by c l None = None
reply_by c l (Some what) = Some (to_peer c l what)

abbrev pub reply_to : LinkSet → Option Changeover → Option Changeover
reply_to c None = None
reply_to c (Some m) =
    if is_for c m then reply_by c m.label.sls (replies_at m.kind (slice_get c.links m.label.sls))
    else None

-- octets that read as this message, or as none
abbrev pub IsRead : List ℕ → Option Changeover → Type 0
IsRead octets None = (m : Changeover) → Reads octets m → ⊥
IsRead octets (Some m) = Reads octets m

abbrev pub IsReply : Option Changeover → Option (ArrayVec ℕ) → Type 0
IsReply None None = Unit {0}
IsReply None (Some sif) = ⊥
IsReply (Some m) None = ⊥
IsReply (Some m) (Some sif) = Says sif.items m

-- ---- its messages are retrieved

unfoldable pub retrieve_fault_at : LinkSet → ℕ → Option RetrieveError
retrieve_fault_at c l = fault_at retrieve.NoLink retrieve_fault (slice_get c.links l)

-- Those that the far side reported as accepted have left.
unfoldable pub after_retrieve : LinkSet → ℕ → LinkSet
after_retrieve c l = record c {
  links = change c.links l handed;
  gone = c.gone ++ acknowledged (told_front (slice_get c.links l));
}

-- exactly those after the ones that the far side reported; without a report, those not sent since
-- both directions last restarted
unfoldable pub messages_for : LinkSet → ℕ → List Msu
messages_for c l = messages_by accepted_of (slice_get c.links l)

-- ---- the sent messages are given up

unfoldable pub abandon_fault_at : LinkSet → ℕ → Option AbandonError
abandon_fault_at c l = fault_at abandon.NoLink abandon_fault (slice_get c.links l)

-- They have left, and count as unsure; the count stops at its greatest value.
unfoldable pub after_abandon : LinkSet → ℕ → LinkSet
after_abandon c l = record c {
  links = change c.links l given_up;
  unsure = min (2 ^ 64 - 1) (c.unsure + sent_by (slice_get c.links l));
  gone = c.gone ++ unsure (unacknowledged_at (slice_get c.links l));
}

-- the unsent messages
unfoldable pub unsent_at : LinkSet → ℕ → List Msu
unsent_at c l = messages_by none_known (slice_get c.links l)
