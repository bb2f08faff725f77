-- What calls do to the messages held for sending.
use Rattle.std.specs.Prelude.{◌≡◌, ℕ, ◌+◌, ◌≤◌, List, []}
use Rattle.resend_store.specs.declared.messages.Msu.{Msu}
use Rattle.resend_store.specs.Window.{Window}
use Rattle.link_transceiver.specs.Laws.{Loses}
use Rattle.link_term.specs.Term.{Term, transceiver_of, term_with_transceiver}

-- the messages held for sending, with their sequence numbers
abbrev pub window_of : Term → Window
window_of t = (transceiver_of t).sender

-- the terminal with other messages held for sending
abbrev pub with_window : Term → Window → Term
with_window t w = term_with_transceiver t (record (transceiver_of t) { sender = w })

-- Some of the oldest were removed: they were sent, and the far side acknowledged them. The others
-- stay, and none of them newly counts as sent.
pub record Took (old new : Term) : Type 0 where
  pub gone : List Msu
  pub loses : Loses gone (window_of old) (window_of new)

-- None is removed, and none newly counts as sent.
abbrev pub Keeps : Term → Term → Type 0
Keeps old new = Loses [] (window_of old) (window_of new)

-- None is removed, and at most so many more count as sent.
pub record Sends (most : ℕ) (old new : Term) : Type 0 where
  pub kept : (window_of new).kept ≡ (window_of old).kept
  pub sent : (window_of new).sent ≤ (window_of old).sent + most
