-- The effect of octets on the messages that wait to be handed out.
use Rattle.std.proofs.Common.{◌≡◌, ℕ, Bool, true, false, List, ◌++◌, refl, sym, ap, ◌∙◌, append-nil, append_assoc}
use Rattle.std.specs.Prelude.{if◌then◌else◌}
use Rattle.resend_store.specs.declared.messages.Msu.{Msu}
use Rattle.su_octets.specs.Bits.{low_bits}
use Rattle.bit_line.specs.declared.events.LineEvent.{LineEvent}
use Rattle.actor_machine.specs.Ledger.{rebased}
use Rattle.link_transceiver.specs.TransceiverState.{TransceiverState}
use Rattle.link_processes.specs.declared.processes.Processes.{Processes}
use Rattle.link_processes.specs.Machine.{with_book, tidied, is_low, error_taken, octets_taken, counting_told}
use Rattle.link_processes.specs.Laws.{MessagesLaw}
use Rattle.link_term.specs.Hearing.{Reads, as_unit, as_error, AreTaken, nothing, unit, errored, sixteen, silent, octet}
use Rattle.link_term.specs.Laws.{accepted_read, accepted_taken, accepted_along, Delivers}

transceiver_if : (b : Bool) (x y : Processes) (h : TransceiverState) → x.transceiver ≡ h → y.transceiver ≡ h → (if b then x else y).transceiver ≡ h
transceiver_if true x y h p q = p
transceiver_if false x y h p q = q

pub tidied_transceiver : (t : Processes) → (tidied t).transceiver ≡ t.transceiver
unfolding tidied
tidied_transceiver t = transceiver_if (is_low t) (with_book t (rebased t.book)) t t.transceiver refl refl

joined : (a b c x y : List Msu) → b ≡ a ++ x → c ≡ b ++ y → c ≡ a ++ (x ++ y)
joined a b c x y h k = k ∙ ap (λ (ms : List Msu). ms ++ y) h ∙ append_assoc a x y

module _ (law : MessagesLaw) where
  read_delivers : (octets : List ℕ) (t u : Processes) (r : Reads octets t u) → u.transceiver.messages ≡ t.transceiver.messages ++ accepted_read r
  read_delivers _ _ _ (as_unit octets x t frame) = law.units x t
  read_delivers _ _ _ (as_error octets t none) = law.errors t ∙ sym (append-nil t.transceiver.messages)

  taken_delivers : (events : List LineEvent) (t u : Processes) (r : AreTaken events t u) → u.transceiver.messages ≡ t.transceiver.messages ++ accepted_taken r
  taken_delivers _ _ _ (nothing t) = sym (append-nil t.transceiver.messages)
  taken_delivers _ _ _ (unit octets left t u v read taken) =
      joined t.transceiver.messages u.transceiver.messages v.transceiver.messages (accepted_read read) (accepted_taken taken)
      (read_delivers octets (counting_told false t) u read ∙ ap (λ (ms : List Msu). ms ++ accepted_read read) (law.counting false t))
      (taken_delivers left u v taken)
  taken_delivers _ _ _ (errored left t v taken) =
      taken_delivers left (error_taken t) v taken ∙ ap (λ (ms : List Msu). ms ++ accepted_taken taken) (law.errors t)
  taken_delivers _ _ _ (sixteen left t v taken) =
      taken_delivers left (octets_taken t) v taken ∙ ap (λ (ms : List Msu). ms ++ accepted_taken taken) (law.octets t)

  pub delivers : Delivers
  delivers _ _ _ _ _ _ (silent bits all t) = sym (append-nil t.transceiver.messages)
  delivers _ _ _ _ _ _ (octet bits all given t u v first octets now on room are taken counts hears) =
      joined t.transceiver.messages u.transceiver.messages v.transceiver.messages (accepted_taken taken) (accepted_along hears)
      (taken_delivers given (tidied t) u taken ∙ ap (λ (h : TransceiverState). h.messages ++ accepted_taken taken) (tidied_transceiver t))
      (delivers (bits ++ low_bits 8 first) (all ++ given) now (counting_told on u) v octets hears ∙ ap (λ (ms : List Msu). ms ++ accepted_along hears) (law.counting on u))
