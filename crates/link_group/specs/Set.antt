-- A set of links between two signalling points.
use Rattle.std.specs.Prelude.{ℕ, if◌then◌else◌, List, [], ◌∷◌, ◌++◌, Option, Some, None}
use Rattle.std.specs.Prelude.{slice_get}
use Rattle.resend_store.specs.declared.messages.Msu.{Msu}
use Rattle.group_changeover.specs.Sharing.{selection_of, link_of}
use Rattle.group_changeover.specs.Bound.{is_bound}
use Rattle.group_changeover.specs.declared.bound.Points.{Points}
use Rattle.link_group.specs.declared.gone.Gone.{Gone}
use Rattle.link_group.specs.declared.link.Link.{Link}
use Rattle.group_changeover.specs.declared.errors.SendError.{SendError}
use Rattle.group_changeover.specs.declared.errors.SendError.TheVariants as send
use Rattle.group_changeover.specs.declared.errors.BindError.{BindError}
use Rattle.group_changeover.specs.declared.errors.BindError.TheVariants as bind
use Rattle.link_group.specs.OneLink.{put_fault, puts, bind_fault}
use Rattle.link_group.specs.Links.{change, fault_at}

pub record LinkSet : Type 0 where
  -- the point codes of this point and of the other
  pub own : ℕ
  pub peer : ℕ
  pub links : List Link
  -- the link of each selection
  pub table : List (Option ℕ)
  -- how many messages are unsure: it was never known whether they arrived
  pub unsure : ℕ
  -- every message that `send` took, in order
  pub accepted : List Msu
  -- those of them that left, acknowledged or unsure, in order
  pub gone : List Gone

-- ---- a message to send

abbrev pub send_fault_by : List Link → Option ℕ → Option SendError
send_fault_by ks None = Some send.NoLink
send_fault_by ks (Some l) = fault_at send.NoLink put_fault (slice_get ks l)

abbrev pub points_of : LinkSet → Points
points_of c = record { own = c.own; peer = c.peer }

-- K5 if it is bound to a link; K1 if its selection has no link; else that link's answer
unfoldable pub send_fault : LinkSet → Msu → Option SendError
send_fault c m =
    if is_bound (points_of c) m then Some send.Bound
    else send_fault_by c.links (link_of c.table (selection_of m))

abbrev pub change_by : List Link → Option ℕ → (Link → Link) → List Link
change_by ks None f = ks
change_by ks (Some l) f = change ks l f

-- It is put last on the link of its selection, and counts as accepted.
unfoldable pub sent : LinkSet → Msu → LinkSet
sent c m = record c {
  links = change_by c.links (link_of c.table (selection_of m)) (puts m);
  accepted = c.accepted ++ m ∷ [];
}

-- ---- a message bound to a link

unfoldable pub bind_fault_at : LinkSet → ℕ → Option BindError
bind_fault_at c l = fault_at bind.NoLink bind_fault (slice_get c.links l)

-- It is put last on that link. It isn't one of the accepted ones.
unfoldable pub bound_at : LinkSet → ℕ → Msu → LinkSet
bound_at c l m = record c { links = change c.links l (puts m) }
