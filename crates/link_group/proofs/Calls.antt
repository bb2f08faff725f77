-- Sending a unit and receiving octets by a link continue its life.
use Rattle.std.proofs.Common.{◌≡◌, ℕ, ◌-◌, Bool, false, List, ◌++◌, length, take, Option, Some, refl, sym, ap, ◌∙◌, subst}
use Rattle.std.specs.Prelude.{if◌then◌else◌, slice_get, option_map}
use Rattle.std.specs.Option.{option_to_list}
use Rattle.bit_line.specs.declared.events.LineEvent.{LineEvent}
use Rattle.su_octets.specs.declared.units.Unit.{Unit}
use Rattle.link_transceiver.specs.TransceiverState.{TransceiverState}
use Rattle.link_processes.specs.declared.processes.Processes.{Processes}
use Rattle.link_processes.specs.Machine.{tidied, sent}
use Rattle.link_term.specs.Term.{Term}
use Rattle.link_group.specs.declared.link.Link.{Link}
use Rattle.link_group.specs.Links.{change}
use Rattle.link_group.specs.Doing.{Listened, Sent, began, unbegun, leaves_out, asked_of, asked}
use Rattle.link_term.specs.Hearing.{Hears}
use Rattle.link_term.specs.Laws.{accepted_along}
use Rattle.link_group.specs.Set.{LinkSet}
use Rattle.link_group.specs.Gone.{acknowledged, left_of}
use Rattle.link_group.specs.Lines.{ByLink, seen}
use Rattle.link_group.specs.Ends.{Ends, Lives, place_behind, near_else, far_else}
use Rattle.link_group.specs.Along.{units_along, Arrive}
use Rattle.link_group.specs.Joined.{end_of, end_at}
use Rattle.link_group.proofs.Along.{tidied_same}
use Rattle.link_group.proofs.Terminals.{terminals_fare}
use Rattle.link_group.proofs.Between.{Between}
use Rattle.link_group.proofs.Getting.{change_here, set_there}

-- ---- the links after a call

pub seen_links : (l : ℕ) (c : LinkSet) → (seen l c).links ≡ change c.links l asked
unfolding seen
seen_links l c = refl

pub behind_links : (did : Link → Link → Type 0) (i : ℕ) (c e : LinkSet) (by : ByLink did i c e) → e.links ≡ change by.links i asked
behind_links did i c e by = ap (λ (y : LinkSet). y.links) by.set ∙ seen_links i (record c { links = by.links; gone = c.gone ++ acknowledged (left_of by.at.before by.at.after) })

-- After a call it was read whether the link came into service and restarted.
abbrev pub asked_end : TransceiverState → TransceiverState
asked_end h = record h { began = false; came = false }

-- without a restart, no message leaves
pub asked_plain : (k : Link) → began k ≡ false → end_of (asked k) ≡ asked_end (end_of k)
asked_plain k e = ap (λ (b : Bool). end_of (asked_of (if◌then◌else◌ {A = Link} b (leaves_out (unbegun k)) (unbegun k)))) e

pub end_behind : (did : Link → Link → Type 0) (l : ℕ) (c e : LinkSet) (by : ByLink did l c e) → (end_of by.at.after).began ≡ false → end_at e l ≡ Some (asked_end (end_of by.at.after))
end_behind did l c e by none =
    let there : slice_get by.links l ≡ Some by.at.after =
    ap (λ (ks : List Link). slice_get ks l) by.at.links ∙ set_there c.links l by.at.after by.at.before by.at.there in
    ap (λ (ks : List Link). option_map end_of (slice_get ks l)) (behind_links did l c e by)
    ∙ (ap (λ (o : Option Link). option_map end_of o) (change_here asked by.links l (Some by.at.after) there)
    ∙ ap (λ (h : TransceiverState). Some h) (asked_plain by.at.after none))

pub end_before : (did : Link → Link → Type 0) (l : ℕ) (c e : LinkSet) (by : ByLink did l c e) (h : TransceiverState) → end_at c l ≡ Some h → h ≡ end_of by.at.before
end_before did l c e by h is =
    let both : Some h ≡ Some (end_of by.at.before) = sym is ∙ ap (λ (o : Option Link). option_map end_of o) by.at.there in cc

-- ---- a unit is sent

pub near_gives : (l : ℕ) (c e d : LinkSet) (x : Ends) (unit : Option Unit) (by : ByLink (Sent unit) l c e) → Between l c d x → (end_of by.at.after).began ≡ false
    → Between l e d (record x { near = asked_end (end_of by.at.after); forth = x.forth ++ option_to_list unit })
near_gives l c e d x unit by b none =
    let t : Processes = tidied by.at.before.terminal.processes in
    let is : x.near ≡ t.transceiver = end_before (Sent unit) l c e by x.near b.near ∙ sym (tidied_same by.at.before.terminal.processes) in
    let now : end_of by.at.after ≡ (sent t).processes.transceiver = ap (λ (u : Term). u.processes.transceiver) by.at.was.terminal in
    let went : Lives (record x { near = (sent t).processes.transceiver; forth = x.forth ++ option_to_list (sent t).unit }) =
    terminals_fare.near_sends x t is (sym (ap (λ (h : TransceiverState). h.began) now) ∙ none) b.life in
    let as_unit : Lives (record x { near = (sent t).processes.transceiver; forth = x.forth ++ option_to_list unit }) =
    subst (λ (o : Option Unit). Lives (record x { near = (sent t).processes.transceiver; forth = x.forth ++ option_to_list o })) (sym by.at.was.unit_is) went in
    let as_end : Lives (record x { near = end_of by.at.after; forth = x.forth ++ option_to_list unit }) =
    subst (λ (h : TransceiverState). Lives (record x { near = h; forth = x.forth ++ option_to_list unit })) (sym now) as_unit in
    record {
      life = near_else (record x { near = end_of by.at.after; forth = x.forth ++ option_to_list unit }) (asked_end (end_of by.at.after)) as_end refl refl;
      near = end_behind (Sent unit) l c e by none;
      far = b.far;
    }

pub far_gives : (l : ℕ) (c d e : LinkSet) (x : Ends) (unit : Option Unit) (by : ByLink (Sent unit) l d e) → Between l c d x → (end_of by.at.after).began ≡ false
    → Between l c e (record x { far = asked_end (end_of by.at.after); back = x.back ++ option_to_list unit })
far_gives l c d e x unit by b none =
    let t : Processes = tidied by.at.before.terminal.processes in
    let is : x.far ≡ t.transceiver = end_before (Sent unit) l d e by x.far b.far ∙ sym (tidied_same by.at.before.terminal.processes) in
    let now : end_of by.at.after ≡ (sent t).processes.transceiver = ap (λ (u : Term). u.processes.transceiver) by.at.was.terminal in
    let went : Lives (record x { far = (sent t).processes.transceiver; back = x.back ++ option_to_list (sent t).unit }) =
    terminals_fare.far_sends x t is (sym (ap (λ (h : TransceiverState). h.began) now) ∙ none) b.life in
    let as_unit : Lives (record x { far = (sent t).processes.transceiver; back = x.back ++ option_to_list unit }) =
    subst (λ (o : Option Unit). Lives (record x { far = (sent t).processes.transceiver; back = x.back ++ option_to_list o })) (sym by.at.was.unit_is) went in
    let as_end : Lives (record x { far = end_of by.at.after; back = x.back ++ option_to_list unit }) =
    subst (λ (h : TransceiverState). Lives (record x { far = h; back = x.back ++ option_to_list unit })) (sym now) as_unit in
    record {
      life = far_else (record x { far = end_of by.at.after; back = x.back ++ option_to_list unit }) (asked_end (end_of by.at.after)) as_end refl refl (λ held. held);
      near = b.near;
      far = end_behind (Sent unit) l d e by none;
    }

-- ---- octets are received

pub near_hears : (l : ℕ) (c e d : LinkSet) (x : Ends) (octets : List ℕ) (taken : ℕ) (by : ByLink (Listened octets taken) l c e) (bits : List Bool) (all now : List LineEvent)
    (h : Hears bits all by.at.before.terminal.processes (take taken octets) now by.at.after.terminal.processes) (rest : List Unit) → Between l c d x → (end_of by.at.after).began ≡ false
    → Arrive (units_along h) x.back rest
    → Between l e d
    (record x { near = asked_end (end_of by.at.after); back = rest; place = place_behind (length x.near.sender.kept - length (end_of by.at.after).sender.kept) x.place })
near_hears l c e d x octets taken by bits all now h rest b none a =
    let is : x.near ≡ end_of by.at.before = end_before (Listened octets taken) l c e by x.near b.near in
    let y : Ends = record x { near = end_of by.at.after; back = rest; place = place_behind (length x.near.sender.kept - length (end_of by.at.after).sender.kept) x.place } in
    let heard : Lives y = terminals_fare.near_hears bits all now by.at.before.terminal.processes by.at.after.terminal.processes (take taken octets) h x rest is none a b.life in
    record { life = near_else y (asked_end (end_of by.at.after)) heard refl refl; near = end_behind (Listened octets taken) l c e by none; far = b.far }

pub far_hears : (l : ℕ) (c d e : LinkSet) (x : Ends) (octets : List ℕ) (taken : ℕ) (by : ByLink (Listened octets taken) l d e) (bits : List Bool) (all now : List LineEvent)
    (h : Hears bits all by.at.before.terminal.processes (take taken octets) now by.at.after.terminal.processes) (rest : List Unit) → Between l c d x → (end_of by.at.after).began ≡ false
    → Arrive (units_along h) x.forth rest
    → Between l c e (record x { far = asked_end (end_of by.at.after); forth = rest; delivered = x.delivered ++ accepted_along h })
far_hears l c d e x octets taken by bits all now h rest b none a =
    let is : x.far ≡ end_of by.at.before = end_before (Listened octets taken) l d e by x.far b.far in
    let y : Ends = record x { far = end_of by.at.after; forth = rest; delivered = x.delivered ++ accepted_along h } in
    let heard : Lives y = terminals_fare.far_hears bits all now by.at.before.terminal.processes by.at.after.terminal.processes (take taken octets) h x rest is none a b.life in
    record { life = far_else y (asked_end (end_of by.at.after)) heard refl refl (λ held. held); near = b.near; far = end_behind (Listened octets taken) l d e by none }
