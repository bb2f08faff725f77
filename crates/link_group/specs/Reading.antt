-- Reading one link of a set.
use Rattle.std.specs.Prelude.{ℕ, length, Option, Some, None, slice_get}
use Rattle.actor_machine.specs.Ledger.{Ledger}
use Rattle.link_term.specs.Term.{Term, ledger_of}
use Rattle.resend_store.specs.declared.messages.Msu.{Msu}
use Rattle.link_group.specs.declared.link.Link.{Link}
use Rattle.link_group.specs.OneLink.{held, window}

abbrev pub held_count : Link → ℕ
held_count k = length (held k)

abbrev pub sent_count : Link → ℕ
sent_count k = (window k).sent

abbrev pub message_at : ℕ → Option Link → Option Msu
message_at place None = None
message_at place (Some k) = slice_get (held k) place

abbrev pub terminal_of : Link → Term
terminal_of k = k.terminal

abbrev pub book_of : Link → Ledger
book_of k = ledger_of k.terminal
