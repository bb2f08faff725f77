-- Which messages held for sending calls remove, and how many count as sent.
use Rattle.std.proofs.Common.{◌≡◌, ℕ, zero, suc, ◌+◌, ◌≤◌, Bool, false, List, [], ◌++◌, length, refl, sym, ap, ◌∙◌, subst, length-append, append_assoc, arith}
use Rattle.resend_store.specs.declared.messages.Msu.{Msu}
use Rattle.resend_store.specs.Window.{Window}
use Rattle.su_octets.specs.Bits.{low_bits}
use Rattle.bit_line.specs.Deframing.{Stands}
use Rattle.bit_line.specs.declared.events.LineEvent.{LineEvent}
use Rattle.bit_line.proofs.EventLaws.{stands_events}
use Rattle.link_transceiver.specs.TransceiverState.{TransceiverState}
use Rattle.link_transceiver.specs.Laws.{Loses}
use Rattle.link_processes.specs.declared.processes.Processes.{Processes}
use Rattle.link_processes.specs.Machine.{error_taken, octets_taken, counting_told, sent, tidied}
use Rattle.link_processes.specs.Laws.{KeptLaw}
use Rattle.link_term.specs.Hearing.{Reads, as_unit, as_error, AreTaken, nothing, unit, errored, sixteen, silent, octet, Heard}
use Rattle.link_term.specs.Kept.{window_of, Took, Sends}
use Rattle.link_term.specs.Speaking.{left, Spoke}
use Rattle.link_term.specs.Term.{Term, with_processes}
use Rattle.link_term.specs.Laws.{acknowledged_read, acknowledged_taken, acknowledged_along, StaysKept}
use Rattle.link_term.proofs.Delivering.{tidied_transceiver}

none_more : (n : ℕ) → length {A = Msu} [] + n ≤ n
none_more n = omega arith

no_loss : (w : Window) → Loses [] w w
no_loss w = record { kept = refl; sent = none_more w.sent }

both_sent : (n g k a b c : ℕ) → n ≡ g + k → g + b ≤ a → k + c ≤ b → n + c ≤ a
both_sent n g k a b c e h j = omega (arith, e, h, j)

losses_joined : (gone more : List Msu) (a b c : Window) → Loses gone a b → Loses more b c → Loses (gone ++ more) a c
losses_joined gone more a b c h k = record {
  kept = h.kept ∙ ap (λ (ms : List Msu). gone ++ ms) k.kept ∙ sym (append_assoc gone more c.kept);
  sent = both_sent (length (gone ++ more)) (length gone) (length more) a.sent b.sent c.sent (length-append gone more) h.sent k.sent;
}

module _ (law : KeptLaw) where
  read_loses : (octets : List ℕ) (t u : Processes) (r : Reads octets t u) → Loses (acknowledged_read r) t.transceiver.sender u.transceiver.sender
  read_loses _ _ _ (as_unit octets x t frame) = law.units x t
  read_loses _ _ _ (as_error octets t none) = law.errors t

  taken_loses : (events : List LineEvent) (t u : Processes) (r : AreTaken events t u) → Loses (acknowledged_taken r) t.transceiver.sender u.transceiver.sender
  taken_loses _ _ _ (nothing t) = no_loss t.transceiver.sender
  taken_loses _ _ _ (unit octets left t u v read taken) =
      let m : Processes = counting_told false t in
      losses_joined (acknowledged_read read) (acknowledged_taken taken) t.transceiver.sender u.transceiver.sender v.transceiver.sender
      (losses_joined [] (acknowledged_read read) t.transceiver.sender m.transceiver.sender u.transceiver.sender (law.counting false t) (read_loses octets m u read))
      (taken_loses left u v taken)
  taken_loses _ _ _ (errored left t v taken) =
      losses_joined [] (acknowledged_taken taken) t.transceiver.sender (error_taken t).transceiver.sender v.transceiver.sender (law.errors t)
      (taken_loses left (error_taken t) v taken)
  taken_loses _ _ _ (sixteen left t v taken) =
      losses_joined [] (acknowledged_taken taken) t.transceiver.sender (octets_taken t).transceiver.sender v.transceiver.sender (law.octets t)
      (taken_loses left (octets_taken t) v taken)

  pub stays_kept : StaysKept
  stays_kept _ _ _ _ _ _ (silent bits all t) = no_loss t.transceiver.sender
  stays_kept _ _ _ _ _ _ (octet bits all given t u v first octets now on room are taken counts hears) =
      let P : Window → Type 0 = λ w. Loses (acknowledged_taken taken) w u.transceiver.sender in
      let m : Processes = counting_told on u in
      losses_joined (acknowledged_taken taken) (acknowledged_along hears) t.transceiver.sender u.transceiver.sender v.transceiver.sender
      (subst P (ap (λ (h : TransceiverState). h.sender) (tidied_transceiver t)) (taken_loses given (tidied t) u taken))
      (losses_joined [] (acknowledged_along hears) u.transceiver.sender m.transceiver.sender v.transceiver.sender (law.counting on u)
      (stays_kept (bits ++ low_bits 8 first) (all ++ given) now m v octets hears))

-- ---- calls

pub took_nothing : (t : Term) → Took t t
took_nothing t = record { gone = []; loses = no_loss (window_of t) }

pub took_from : (old inside new : Term) → inside ≡ old → Took inside new → Took old new
took_from old inside new is took = let P : Term → Type 0 = λ t. Took t new in subst P is took

pub took_none : (old t : Term) (h : Processes) → t ≡ old → h ≡ t.processes → Took old (with_processes t h)
took_none old t h is same =
    let P : Processes → Type 0 = λ x. Took old (with_processes t x) in subst P (sym same) (took_from old t t is (took_nothing t))

pub took_more : (t m u : Term) → Took t m → Took m u → Took t u
took_more t m u first second = record {
  gone = first.gone ++ second.gone;
  loses = losses_joined first.gone second.gone (window_of t) (window_of m) (window_of u) first.loses second.loses;
}

-- octets taken remove the messages that they acknowledge
pub took_heard : StaysKept → (t u : Term) (bits : List Bool) (octets : List ℕ) → Stands bits t.line → Heard t octets u → Took t u
took_heard law t u bits octets stands heard =
    let are = stands_events bits t.line stands in
    let along = heard.hears bits are.0 stands are.1 in
    record { gone = acknowledged_along along.2; loses = law bits are.0 along.0 t.processes u.processes octets along.2 }

one_more : (a b c k : ℕ) → a ≤ b + k → b ≤ c + 1 → a ≤ c + suc k
one_more a b c k h j = omega (arith, h, j)

none_yet : (n : ℕ) → n ≤ n + zero
none_yet n = omega arith

at_most : (a b n m : ℕ) → a ≤ b + n → n ≤ m → a ≤ b + m
at_most a b n m h le = omega (arith, h, le)

module _ (law : KeptLaw) where
  left_kept : (k : ℕ) (t : Processes) → (left k t).transceiver.sender.kept ≡ t.transceiver.sender.kept
  left_kept zero t = refl
  left_kept (suc k) t =
      left_kept k (sent (tidied t)).processes ∙ law.sends (tidied t) ∙ ap (λ (h : TransceiverState). h.sender.kept) (tidied_transceiver t)

  left_sent : (k : ℕ) (t : Processes) → (left k t).transceiver.sender.sent ≤ t.transceiver.sender.sent + k
  left_sent zero t = none_yet t.transceiver.sender.sent
  left_sent (suc k) t =
      let next : Processes = (sent (tidied t)).processes in
      let P : TransceiverState → Type 0 = λ h. next.transceiver.sender.sent ≤ h.sender.sent + 1 in
      one_more (left k next).transceiver.sender.sent next.transceiver.sender.sent t.transceiver.sender.sent k (left_sent k next)
      (subst P (tidied_transceiver t) (law.one_sent (tidied t)))

  left_sends : (t : Term) (n most : ℕ) (h : Processes) → n ≤ most → h ≡ left n t.processes → Sends most t (record t { processes = h })
  left_sends t n most h few is = record {
    kept = ap (λ (x : Processes). x.transceiver.sender.kept) is ∙ left_kept n t.processes;
    sent = at_most h.transceiver.sender.sent t.processes.transceiver.sender.sent n most
        (let P : Processes → Type 0 = λ x. x.transceiver.sender.sent ≤ t.processes.transceiver.sender.sent + n in subst P (sym is) (left_sent n t.processes)) few;
  }

  -- sent units
  pub spoke_sends : (t u : Term) (before after : List ℕ) (n most : ℕ) → n ≤ most → Spoke t before n u after → Sends most t u
  spoke_sends t u before after n most few spoke =
      let s = left_sends t n most u.processes few spoke.processes in record { kept = s.kept; sent = s.sent }
