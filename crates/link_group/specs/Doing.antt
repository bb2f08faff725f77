-- What a link does with its terminal, and how it comes into service.
use Rattle.std.specs.Prelude.{◌≡◌, ℕ, ◌-◌, ◌<◌, ◌≤◌, ◌&&◌, ◌⊎◌, Bool, true, false, not}
use Rattle.std.specs.Prelude.{if◌then◌else◌, List, ◌++◌, length, take, drop, Option, Some, None}
use Rattle.std.specs.Prelude.{slice_get, slice_set}
use Rattle.link_transceiver.specs.Limits.{KEPT_MESSAGES}
use Rattle.link_processes.specs.Machine.{is_low, sent, tidied}
use Rattle.link_term.specs.Term.{Term, transceiver_of, term_with_transceiver, with_processes}
use Rattle.link_term.specs.Kept.{Took, Sends, window_of}
use Rattle.link_term.specs.Hearing.{Heard}
use Rattle.link_term.specs.Speaking.{IsSpoken}
use Rattle.link_transceiver.specs.Reporting.{reported}
use Rattle.link_transceiver.specs.declared.signals.Report.{Report}
use Rattle.su_octets.specs.declared.units.Unit.{Unit}
use Rattle.group_changeover.specs.Availability.{fewer, serves, takes_part, admits}
use Rattle.link_group.specs.declared.link.Link.{Link}
use Rattle.resend_store.specs.declared.messages.Msu.{Msu}
use Rattle.resend_store.specs.Window.{without_at}
use Rattle.group_changeover.specs.Bound.{unbound}
use Rattle.group_changeover.specs.declared.bound.Points.{Points}
use Rattle.link_group.specs.OneLink.{held, window, shares, accepted_of, with_availability, bound_by}
use Rattle.link_group.specs.OneLink.{bound_among}

-- the link came into service since that was last read
abbrev pub came : Link → Bool
came k = (transceiver_of k.terminal).came

-- the link is in service, not held, and admitted for the first time
abbrev pub came_first : Link → Bool
came_first k = shares k && not k.availability.served

-- from then on it is marked so
abbrev pub marked_served : Link → Link
marked_served k = with_availability (takes_part (shares k) k.availability) k

-- ---- level 3 admits a link

abbrev pub admitted : Bool → Link → Link
admitted way k = with_availability (admits way k.availability) k

abbrev pub admits_at : Bool → Link → Link
admits_at way k = marked_served (admitted way k)

abbrev pub admits_first : Bool → Link → Bool
admits_first way k = came_first (admitted way k)

abbrev pub admits_by : Bool → Option Link → Bool
admits_by way None = false
admits_by way (Some k) = admits_first way k

-- ---- a link's directions restart

abbrev pub began : Link → Bool
began k = (transceiver_of k.terminal).began

abbrev pub unbegun : Link → Link
unbegun k =
    record k {
      terminal = term_with_transceiver k.terminal
          (record (transceiver_of k.terminal) { began = false });
    }

abbrev pub with_kept : List Msu → Term → Term
with_kept ms t =
    term_with_transceiver t
    (record (transceiver_of t) { sender = record (window_of t) { kept = ms } })

-- the message at a place is removed if it is bound to a link
abbrev pub without_bound_at : Points → ℕ → Term → Term
without_bound_at p i t =
    if bound_by p (slice_get (window_of t).kept i)
    then with_kept (without_at (window_of t) i).kept t else t

-- all waiting messages bound to a link are removed
abbrev pub without_bound : Points → Term → Term
without_bound p t =
    with_kept
    (take (window_of t).sent (window_of t).kept
    ++ unbound p (drop (window_of t).sent (window_of t).kept)) t

abbrev pub how_many : Option ℕ → ℕ
how_many None = 0
how_many (Some n) = n

-- how many bound and waiting messages are among those that the far side reported as accepted
abbrev pub bound_told : Link → ℕ
bound_told k =
    length (bound_among k (how_many (accepted_of k))) - length (bound_among k (window k).sent)

-- The waiting messages bound to the link are removed. The far side's count becomes one of the
-- remaining messages.
abbrev pub leaves_out : Link → Link
leaves_out k =
    record k {
      terminal = without_bound k.points k.terminal;
      availability = fewer (bound_told k) k.availability;
    }

-- They are removed if the link's directions restarted since that was last read.
abbrev pub anew : Link → Link
anew k = if began k then leaves_out (unbegun k) else unbegun k

-- ---- a link comes into service

-- A link that came into service loses its mark of a restart.
abbrev pub asked_of : Link → Link
asked_of k = marked_served (record k {
  terminal = term_with_transceiver k.terminal
      (record (transceiver_of k.terminal) { came = false });
  availability = if came k then serves k.availability else k.availability;
})

abbrev pub asked : Link → Link
asked k = asked_of (anew k)

abbrev pub came_by : Option Link → Bool
came_by None = false
came_by (Some k) = came_first k

-- whether its journal is low, so that making room needs memory
abbrev pub low_at : Option Link → Bool
low_at None = false
low_at (Some k) = is_low k.terminal.processes

-- only the terminal of the link at a place changed, in this way
pub record AtLink (did : Link → Link → Type 0) (l : ℕ) (old new : List Link) : Type 0 where
  pub before : Link
  pub there : slice_get old l ≡ Some before
  pub after : Link
  pub links : new ≡ slice_set old l after
  pub was : did before after

-- So many of the octets were taken. The far side's count becomes one of the remaining messages.
pub record Listened (octets : List ℕ) (taken : ℕ) (old new : Link) : Type 0 where
  pub points : new.points ≡ old.points
  pub hand : new.hand ≡ old.hand
  pub few : taken ≤ length octets
  pub heard : Heard old.terminal (take taken octets) new.terminal
  pub stops :
      taken < length octets
      → (KEPT_MESSAGES ≤ length (transceiver_of new.terminal).messages)
      ⊎ (is_low new.terminal.processes ≡ true)
  pub took : Took old.terminal new.terminal
  pub availability :
      new.availability ≡ fewer (length (held old) - length (held new)) old.availability

-- the messages that the octets acknowledged
abbrev pub acknowledged_by :
    {octets : List ℕ} {taken : ℕ} {old new : Link} → Listened octets taken old new → List Msu
acknowledged_by did = did.took.gone

-- so many units were requested, and these octets were sent
pub record Spoken (units : ℕ) (octets : List ℕ) (old new : Link) : Type 0 where
  pub points : new.points ≡ old.points
  pub hand : new.hand ≡ old.hand
  pub spoken : IsSpoken old.terminal units new.terminal octets
  pub sends : Sends units old.terminal new.terminal
  pub availability : new.availability ≡ old.availability

-- how many units were sent
abbrev pub count_spoken :
    {units : ℕ} {octets : List ℕ} {old new : Link} → Spoken units octets old new → ℕ
count_spoken did = did.spoken.count

-- this unit was sent
pub record Sent (unit : Option Unit) (old new : Link) : Type 0 where
  pub points : new.points ≡ old.points
  pub hand : new.hand ≡ old.hand
  pub unit_is : unit ≡ (sent (tidied old.terminal.processes)).unit
  pub terminal :
      new.terminal ≡ with_processes old.terminal (sent (tidied old.terminal.processes)).processes
  pub sends : Sends 1 old.terminal new.terminal
  pub availability : new.availability ≡ old.availability

-- this report was handed out
pub record Reported (report : Option Report) (old new : Link) : Type 0 where
  pub points : new.points ≡ old.points
  pub hand : new.hand ≡ old.hand
  pub report_is : report ≡ (reported (transceiver_of old.terminal)).report
  pub terminal :
      new.terminal
      ≡ term_with_transceiver old.terminal (reported (transceiver_of old.terminal)).transceiver
  pub same : window_of new.terminal ≡ window_of old.terminal
  pub availability : new.availability ≡ old.availability
