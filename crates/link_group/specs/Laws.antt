-- Laws over every list of calls.
use Rattle.std.specs.Prelude.{◌≡◌, ◌-◌, ◌^◌, ℕ, min, List, [], Option, Some, None, slice_get}
use Rattle.std.specs.List.{count_by}
use Rattle.resend_store.specs.declared.messages.Msu.{Msu}
use Rattle.group_changeover.specs.Places.{Places, OnePlace}
use Rattle.group_changeover.specs.Sharing.{link_of}
use Rattle.link_group.specs.declared.gone.Gone.{Gone}
use Rattle.link_group.specs.declared.link.Link.{Link}
use Rattle.link_group.specs.Gone.{messages_gone}
use Rattle.link_group.specs.OneLink.{messages}
use Rattle.link_group.specs.Moving.{hand_by}
use Rattle.link_group.specs.Set.{LinkSet}
use Rattle.link_group.specs.Reached.{Reached, IsReached}

abbrev pub held_by : Option Link → List Msu
held_by None = []
held_by (Some k) = messages k

-- the messages that a link holds, without bound ones; none if there is no such link
abbrev pub held_at : LinkSet → ℕ → List Msu
held_at c l = held_by (slice_get c.links l)

-- the messages in a link's hand: retrieved and not yet diverted
abbrev pub hand_at : LinkSet → ℕ → List Msu
hand_at c l = hand_by (slice_get c.links l)

abbrev pub places_of : LinkSet → List Msu → List Gone → Places
places_of c accepted gone = record {
  accepted = accepted;
  gone = messages_gone gone;
  held = held_at c;
  retrieval = hand_at c;
  link = link_of c.table;
}

-- Each accepted message is in exactly one place, or has left, in order for each selection. Messages
-- that left when octets were received are those that the units acknowledged, as the terminal's
-- contract says. The others that left are those that the far side reported, or unsure.
abbrev pub EachInOnePlace : Type 0
EachInOnePlace =
    (c : LinkSet) (accepted : List Msu) (gone : List Gone)
    → Reached c accepted gone → OnePlace (places_of c accepted gone)

-- how many of those that left are unsure: it was never known whether they arrived
abbrev pub unsure_in : List Gone → ℕ
unsure_in gone = count_by (λ g. g.unsure) gone

-- The set's count of unsure messages is this number, up to its greatest value.
abbrev pub UnsureAreCounted : Type 0
UnsureAreCounted =
    (c : LinkSet) (accepted : List Msu) (gone : List Gone)
    → Reached c accepted gone → c.unsure ≡ min (2 ^ 64 - 1) (unsure_in gone)

-- Both laws of one set, for the messages that `send` took in this set and those of them that left.
-- The rest are each in their one place, and the unsure ones are counted.
pub record Accounted (c : LinkSet) : Type 0 where
  pub reached : IsReached c
  pub one_place : OnePlace (places_of c c.accepted c.gone)
  pub unsure_are : c.unsure ≡ min (2 ^ 64 - 1) (unsure_in c.gone)
