-- Why a set that manages itself takes no message.
use Rattle.std.specs.Prelude.{ℕ, ◌+◌, ◌&&◌, ◌||◌, nat_le, not, Bool, false, if◌then◌else◌, List, []}
use Rattle.std.specs.Prelude.{◌∷◌, length, Option, None, Some, slice_get}
use Rattle.resend_store.specs.declared.messages.Msu.{Msu}
use Rattle.group_changeover.specs.Sharing.{selection_of, link_of}
use Rattle.group_changeover.specs.declared.errors.SendError.{SendError}
use Rattle.group_changeover.specs.declared.errors.SendError.TheVariants.{Full}
use Rattle.link_group.specs.declared.link.Link.{Link}
use Rattle.link_group.specs.OneLink.{held}
use Rattle.group_changeover.specs.Bound.{is_bound}
use Rattle.link_group.specs.Set.{LinkSet, points_of, send_fault}
use Rattle.link_group.specs.Tables.{changing_by}

-- The numbers of messages and of octets with which a link is full.
abbrev pub MOST_HELD : ℕ
MOST_HELD = 256

abbrev pub MOST_OCTETS : ℕ
MOST_OCTETS = 3000

-- The octets of a message: its service information octet and its field.
abbrev pub size_of : Option Msu → ℕ
size_of None = 0
size_of (Some m) = length m.sif.items + 1

abbrev pub octets_in : List Msu → ℕ
octets_in [] = 0
octets_in (m ∷ ms) = (length m.sif.items + 1) + octets_in ms

-- The messages that a link holds; none if the link doesn't exist.
abbrev pub held_by : Option Link → List Msu
held_by None = []
held_by (Some k) = held k

abbrev pub is_full : List Msu → Bool
is_full ms = nat_le MOST_HELD (length ms) || nat_le MOST_OCTETS (octets_in ms)

abbrev pub is_full_of : Option Link → Bool
is_full_of k = is_full (held_by k)

-- It is full and not in changeover.
abbrev pub is_full_by : Option Link → Bool
is_full_by k = not (changing_by k) && is_full_of k

abbrev pub is_full_at : LinkSet → Option ℕ → Bool
is_full_at c None = false
is_full_at c (Some l) = is_full_by (slice_get c.links l)

-- It isn't bound to a link, and the link of its selection is full.
abbrev pub finds_no_room : LinkSet → Msu → Bool
finds_no_room c m =
    not (is_bound (points_of c) m) && is_full_at c (link_of c.table (selection_of m))

-- E1 if it finds no room, else the answer of the set.
unfoldable pub tended_send_fault : LinkSet → Msu → Option SendError
tended_send_fault c m = if finds_no_room c m then Some Full else send_fault c m
