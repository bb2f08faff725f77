-- The effect of events of the line.
use Rattle.std.proofs.Common.{◌≡◌, ℕ, ◌+◌, ◌<◌, ◌≤◌, zero, suc, false, List, [], ◌∷◌, length, drop, refl, sym, ap, ◌∙◌, subst, arith}
use Rattle.su_octets.specs.Frame.{Frame}
use Rattle.su_octets.specs.declared.units.Unit as units
use Rattle.bit_line.specs.Events.{closings}
use Rattle.bit_line.specs.declared.events.LineEvent.{LineEvent}
use Rattle.bit_line.specs.declared.events.LineEvent.TheVariants as event
use Rattle.link_transceiver.specs.TransceiverState.{TransceiverState}
use Rattle.link_processes.specs.declared.processes.Processes.{Processes}
use Rattle.link_processes.specs.Machine.{unit_taken, error_taken, octets_taken, counting_told, tidied}
use Rattle.link_transceiver.specs.Limits.{KEPT_MESSAGES}
use Rattle.link_term.specs.Hearing.{Reads, as_unit, as_error, AreTaken, nothing, unit, errored, sixteen}
use Rattle.link_term.proofs.Delivering.{tidied_transceiver}

pub reads_unit : (octets : List ℕ) (u : units.Unit) (t new : Processes) → Frame octets u → new ≡ unit_taken u t → Reads octets t new
reads_unit octets u t new frame h = let P : Processes → Type 0 = λ x. Reads octets t x in subst P (sym h) (as_unit octets u t frame)

pub reads_error : (octets : List ℕ) (t new : Processes) → ((u : units.Unit) → Frame octets u → ⊥) → new ≡ error_taken t → Reads octets t new
reads_error octets t new none h = let P : Processes → Type 0 = λ x. Reads octets t x in subst P (sym h) (as_error octets t none)

pub taken_unit : (e : LineEvent) (octets slice : List ℕ) (left : List LineEvent) (t m u v : Processes) → e ≡ event.Unit (record { items = octets })
    → slice ≡ octets → m ≡ counting_told false t → Reads slice m u → AreTaken left u v → AreTaken (e ∷ left) t v
taken_unit e octets slice left t m u v h same told read taken =
    let P : LineEvent → Type 0 = λ x. AreTaken (x ∷ left) t v in
    let Q : List ℕ → Type 0 = λ xs. Reads xs m u in
    let R : Processes → Type 0 = λ x. Reads octets x u in
    subst P (sym h) (unit octets left t u v (subst R told (subst Q same read)) taken)

pub taken_errored : (e : LineEvent) (left : List LineEvent) (t u v : Processes) → e ≡ event.Errored → u ≡ error_taken t → AreTaken left u v
    → AreTaken (e ∷ left) t v
taken_errored e left t u v h same taken =
    let P : LineEvent → Type 0 = λ x. AreTaken (x ∷ left) t v in
    let Q : Processes → Type 0 = λ x. AreTaken left x v in
    subst P (sym h) (errored left t v (subst Q same taken))

pub taken_sixteen : (e : LineEvent) (left : List LineEvent) (t u v : Processes) → e ≡ event.SixteenOctets → u ≡ octets_taken t → AreTaken left u v
    → AreTaken (e ∷ left) t v
taken_sixteen e left t u v h same taken =
    let P : LineEvent → Type 0 = λ x. AreTaken (x ∷ left) t v in
    let Q : Processes → Type 0 = λ x. AreTaken left x v in
    subst P (sym h) (sixteen left t v (subst Q same taken))

drop_all : (es : List LineEvent) (i : ℕ) → length es ≤ i → drop i es ≡ []
drop_all [] zero h = refl
drop_all [] (suc i) h = refl
drop_all (e ∷ es) zero h = let f : ⊥ = omega (arith, h) in absurd f
drop_all (e ∷ es) (suc i) h = drop_all es i (omega (arith, h))

pub all_taken : (es : List LineEvent) (i : ℕ) (t : Processes) → length es ≤ i → AreTaken (drop i es) t t
all_taken es i t h = let P : List LineEvent → Type 0 = λ xs. AreTaken xs t t in subst P (sym (drop_all es i h)) (nothing t)

few : (m k n most : ℕ) → m < most → n ≡ m → k ≤ 1 → n + k ≤ most
few m k n most h e le = omega (arith, h, e, le)

pub room_for : (t u : Processes) (es gs : List LineEvent) → length t.transceiver.messages < KEPT_MESSAGES → u ≡ tidied t → gs ≡ es → closings es ≤ 1
    → length u.transceiver.messages + closings gs ≤ KEPT_MESSAGES
room_for t u es gs room h same one =
    let transceiver : u.transceiver ≡ t.transceiver = ap (λ (x : Processes). x.transceiver) h ∙ tidied_transceiver t in
    let closed : closings gs ≡ closings es = ap closings same in
    few (length t.transceiver.messages) (closings gs) (length u.transceiver.messages) KEPT_MESSAGES room (ap (λ (x : TransceiverState). length x.messages) transceiver)
    (omega (arith, one, closed))

pub taken_from : (gs es : List LineEvent) (h t u : Processes) → gs ≡ es → h ≡ tidied t → AreTaken gs h u → AreTaken es (tidied t) u
taken_from gs es h t u same tidy taken =
    let P : List LineEvent → Type 0 = λ xs. AreTaken xs (tidied t) u in
    let Q : Processes → Type 0 = λ x. AreTaken gs x u in
    subst P same (subst Q tidy taken)
