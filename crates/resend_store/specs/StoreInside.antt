-- What the fields of a store represent, and their invariant.
use Rattle.std.specs.Prelude.{◌≡◌, ◌≤◌, length, take, All}
use Rattle.std.specs.VecDeque.{deque_capacity}
use Rattle.resend_store.specs.declared.store.Store.TheInside.{Inside}
use Rattle.resend_store.specs.Limits.{MOST_UNACKNOWLEDGED, MOST_KEPT}
use Rattle.resend_store.specs.Messages.{IsMessage, octets}
use Rattle.resend_store.specs.Stored.{Stored}

abbrev pub stored_of : Inside → Stored
stored_of a = record { kept = a.kept.items; sent = a.sent }

pub record IsStore (a : Inside) : Type 0 where
  pub room : MOST_KEPT ≤ deque_capacity a.kept
  pub within_store : length a.kept.items ≤ MOST_KEPT
  pub within_kept : a.sent ≤ length a.kept.items
  pub within_window : a.sent ≤ MOST_UNACKNOWLEDGED
  pub messages : All IsMessage a.kept.items
  pub weight : a.octets ≡ octets (take a.sent a.kept.items)
