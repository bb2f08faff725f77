-- An end whose number counts accepts nothing, whatever units it receives, until its directions restart.
use Rattle.std.proofs.Common.{◌≡◌, ℕ, Bool, true, false, List, [], ◌++◌, Some, sym, ap, ◌∙◌, subst, refl}
use Rattle.std.proofs.lemmas.List.{append-nil}
use Rattle.resend_store.specs.declared.messages.Msu.{Msu}
use Rattle.bit_line.specs.declared.events.LineEvent.{LineEvent}
use Rattle.su_octets.specs.declared.units.Unit.{Unit}
use Rattle.link_transceiver.specs.TransceiverState.{TransceiverState, is_held}
use Rattle.link_transceiver.specs.Judging.{judged}
use Rattle.link_transceiver.specs.Laws.{accepted_of}
use Rattle.link_transceiver.proofs.Holding.{holds_back}
use Rattle.link_transceiver.proofs.Withholding.{withholds as stays_withheld}
use Rattle.link_processes.specs.declared.processes.Processes.{Processes}
use Rattle.link_processes.specs.Machine.{tidied, unit_taken, error_taken, octets_taken, counting_told}
use Rattle.link_processes.proofs.Keeping.{unit_keeps, error_keeps, octets_keep, counting_keeps}
use Rattle.link_term.specs.Hearing.{Reads, as_unit, as_error, AreTaken, nothing, unit, errored, sixteen, Hears, silent, octet}
use Rattle.link_term.specs.Laws.{accepted_read, accepted_taken, accepted_along}
use Rattle.link_group.specs.Ends.{Ends, Lives, far_else}
use Rattle.link_group.proofs.Along.{NearOn, near_same, near_joined, near_signal, FarOn, far_same, far_joined, far_signal, far_at, far_further, far_signals, tidied_same, read_began, taken_began, along_began}
use Rattle.link_group.proofs.Faring.{held_far}

-- ---- a unit is judged

shut_judged : (x : Ends) (u : Unit) (p : ℕ) → x.place ≡ Some p → Lives x → Lives (far_at x (judged x.far u).transceiver x.forth (accepted_of x.far u))
shut_judged x u p place r =
    let held : is_held x.far.hold ≡ true = held_far x p r place in
    let g : TransceiverState = (judged x.far u).transceiver in
    let stays : Lives (record x { far = g }) =
    far_else x g r (holds_back.receiver x.far u held) (stays_withheld.on_unit x.far u) (λ h. ap is_held (holds_back.stays_in x.far u) ∙ h) in
    let none : x.delivered ++ accepted_of x.far u ≡ x.delivered = ap (λ (ms : List Msu). x.delivered ++ ms) (holds_back.on_unit x.far u held) ∙ append-nil x.delivered in
    subst (λ (ms : List Msu). Lives (record x { far = g; delivered = ms })) (sym none) stays

shut_unit : (x : Ends) (u : Unit) (t : Processes) (p : ℕ) → x.place ≡ Some p → x.far ≡ t.transceiver → (unit_taken u t).transceiver.began ≡ false → Lives x
    → Lives (far_at x (unit_taken u t).transceiver x.forth (accepted_of t.transceiver u))
shut_unit x u t p place is began r =
    let y : Ends = far_at x (judged t.transceiver u).transceiver x.forth (accepted_of t.transceiver u) in
    let came : Lives y = subst (λ (k : TransceiverState). Lives (far_at x (judged k u).transceiver x.forth (accepted_of k u))) is (shut_judged x u p place r) in
    (unit_keeps FarOn far_same far_joined far_signal u t began).1 y refl came

-- ---- octets are received

shut_read : (octets : List ℕ) (t u : Processes) (read : Reads octets t u) (x : Ends) (p : ℕ) → x.place ≡ Some p → x.far ≡ t.transceiver → u.transceiver.began ≡ false → Lives x
    → Lives (far_at x u.transceiver x.forth (accepted_read read))
shut_read _ _ _ (as_unit octets v t frame) x p place is began r = shut_unit x v t p place is began r
shut_read _ _ _ (as_error octets t none) x p place is began r = far_signals x t.transceiver (error_taken t).transceiver is (error_keeps FarOn far_same far_joined far_signal t) began r

shut_taken : (events : List LineEvent) (t v : Processes) (taken : AreTaken events t v) (x : Ends) (p : ℕ) → x.place ≡ Some p → x.far ≡ t.transceiver → v.transceiver.began ≡ false → Lives x
    → Lives (far_at x v.transceiver x.forth (accepted_taken taken))
shut_taken _ _ _ (nothing t) x p place is began r = far_signals x t.transceiver t.transceiver is (far_same t.transceiver) began r
shut_taken _ _ _ (unit octets left t u v read taken) x p place is began r =
    let w : Processes = counting_told false t in
    let behind : u.transceiver.began ≡ false = taken_began left u v taken began in
    let y : Ends = far_at x w.transceiver x.forth [] in
    let one : Lives y = far_signals x t.transceiver w.transceiver is (counting_keeps FarOn far_same far_joined far_signal false t) (read_began octets w u read behind) r in
    let z : Ends = far_at y u.transceiver x.forth (accepted_read read) in
    let two : Lives z = shut_read octets w u read y p place refl behind one in
    far_further x w.transceiver v.transceiver x.forth x.forth [] (accepted_read read ++ accepted_taken taken)
    (far_further y u.transceiver v.transceiver x.forth x.forth (accepted_read read) (accepted_taken taken) (shut_taken left u v taken z p place refl began two))
shut_taken _ _ _ (errored left t v taken) x p place is began r =
    let y : Ends = far_at x (error_taken t).transceiver x.forth [] in
    let one : Lives y =
    far_signals x t.transceiver (error_taken t).transceiver is (error_keeps FarOn far_same far_joined far_signal t) (taken_began left (error_taken t) v taken began) r in
    far_further x (error_taken t).transceiver v.transceiver x.forth x.forth [] (accepted_taken taken) (shut_taken left (error_taken t) v taken y p place refl began one)
shut_taken _ _ _ (sixteen left t v taken) x p place is began r =
    let y : Ends = far_at x (octets_taken t).transceiver x.forth [] in
    let one : Lives y =
    far_signals x t.transceiver (octets_taken t).transceiver is (octets_keep FarOn far_same far_joined far_signal t) (taken_began left (octets_taken t) v taken began) r in
    far_further x (octets_taken t).transceiver v.transceiver x.forth x.forth [] (accepted_taken taken) (shut_taken left (octets_taken t) v taken y p place refl began one)

pub shut_along : (bits : List Bool) (all now : List LineEvent) (t v : Processes) (octets : List ℕ) (h : Hears bits all t octets now v) (x : Ends) (p : ℕ) → x.place ≡ Some p
    → x.far ≡ t.transceiver → v.transceiver.began ≡ false → Lives x → Lives (far_at x v.transceiver x.forth (accepted_along h))
shut_along _ _ _ _ _ _ (silent bits all t) x p place is began r = far_signals x t.transceiver t.transceiver is (far_same t.transceiver) began r
shut_along _ _ _ _ _ _ (octet bits all given t u v first octets now on room are taken counts hears) x p place is began r =
    let w : Processes = counting_told on u in
    let behind : w.transceiver.began ≡ false = along_began _ _ now w v octets hears began in
    let before : u.transceiver.began ≡ false = (counting_keeps NearOn near_same near_joined near_signal on u behind).0 in
    let y : Ends = far_at x u.transceiver x.forth (accepted_taken taken) in
    let one : Lives y = shut_taken given (tidied t) u taken x p place (is ∙ sym (tidied_same t)) before r in
    let z : Ends = far_at y w.transceiver x.forth [] in
    let two : Lives z = far_signals y u.transceiver w.transceiver refl (counting_keeps FarOn far_same far_joined far_signal on u) behind one in
    far_further x u.transceiver v.transceiver x.forth x.forth (accepted_taken taken) (accepted_along hears)
    (far_further y w.transceiver v.transceiver x.forth x.forth [] (accepted_along hears) (shut_along _ _ now w v octets hears z p place refl began two))
