-- Other calls that continue a life of a link between two sets.
use Rattle.std.proofs.Common.{◌≡◌, ℕ, ◌+◌, ◌-◌, ◌^◌, min, length, zero, suc, Bool, true, false, List, ◌++◌, Option, Some, None, refl, sym, ap, ◌∙◌, subst, map, append_assoc}
use Rattle.std.specs.Prelude.{if◌then◌else◌, slice_get, option_map}
use Rattle.std.specs.Option.{option_to_list}
use Rattle.std.proofs.lemmas.List.{append-nil}
use Rattle.std.proofs.lemmas.Option.{slice_get-map}
use Rattle.plain_laws.proofs.Truths.{by_test}
use Rattle.su_octets.specs.declared.units.Unit.{Unit}
use Rattle.link_transceiver.specs.declared.signals.Hold.{Hold}
use Rattle.link_transceiver.specs.declared.signals.Hold.TheVariants as hold
use Rattle.link_transceiver.specs.declared.signals.Report.{Report}
use Rattle.link_transceiver.specs.TransceiverState.{TransceiverState, is_held}
use Rattle.link_transceiver.specs.Effects.{clears}
use Rattle.link_transceiver.specs.Offers.{acknowledgement_seen}
use Rattle.link_transceiver.specs.Reporting.{reported}
use Rattle.actor_machine.specs.declared.event.Event.{Event}
use Rattle.actor_machine.specs.declared.event.Event.TheVariants.{Advance}
use Rattle.link_processes.specs.declared.commands.Command.{Command}
use Rattle.link_processes.specs.declared.processes.Processes.{Processes}
use Rattle.link_processes.specs.Machine.{with_transceiver, tidied, offered, sent, calm_measured, buffers_emptied, clear_obeyed}
use Rattle.link_processes.specs.Offering.{command_event, offer_event}
use Rattle.link_processes.proofs.Keeping.{offered_keeps, sent_keeps}
use Rattle.group_changeover.specs.declared.availability.Changing.{Changing}
use Rattle.group_changeover.specs.declared.changeover.Kind.{Kind}
use Rattle.group_changeover.specs.Saying.{is_held_by, is_out}
use Rattle.link_term.specs.Term.{Term}
use Rattle.link_group.specs.declared.link.Link.{Link}
use Rattle.link_group.specs.OneLink.{with_availability, with_hold, hold_by}
use Rattle.link_group.specs.Links.{change}
use Rattle.link_group.specs.Commanding.{behind_command, cleared_at}
use Rattle.link_group.specs.Doing.{Spoken, Reported, asked}
use Rattle.link_group.specs.Failing.{marked, hears as hears_at}
use Rattle.link_term.specs.Speaking.{given as units_given, left}
use Rattle.link_group.specs.Ticking.{roomy, passed}
use Rattle.link_group.specs.Set.{LinkSet}
use Rattle.link_group.specs.Gone.{unsure}
use Rattle.link_group.specs.Lines.{ByLink, ByCommand, all_seen}
use Rattle.link_group.specs.Ticks.{with_room, after_ticks}
use Rattle.link_group.specs.Ends.{Ends, Lives, near_else, far_else}
use Rattle.link_group.specs.Joined.{end_of, end_at}
use Rattle.link_group.proofs.Along.{NearOn, near_same, near_joined, near_signal, tidied_same}
use Rattle.link_group.proofs.Terminals.{terminals_fare}
use Rattle.link_group.proofs.Between.{Between}
use Rattle.link_group.proofs.Calls.{asked_end, seen_links, asked_plain, end_behind, end_before}
use Rattle.link_group.proofs.Getting.{change_here, set_there}
use Rattle.link_group.proofs.Heeding.{ends_heed}
use Rattle.link_group.proofs.Units.{gone_began}

-- ---- units in order

sent_began : (t : Processes) → (sent t).processes.transceiver.began ≡ false → t.transceiver.began ≡ false
sent_began t e = sym (gone_began t.transceiver) ∙ (sent_keeps NearOn near_same near_joined near_signal t e).0

left_began : (n : ℕ) (t : Processes) → (left n t).transceiver.began ≡ false → t.transceiver.began ≡ false
left_began zero t e = e
left_began (suc n) t e = ap (λ (h : TransceiverState). h.began) (sym (tidied_same t)) ∙ sent_began (tidied t) (left_began n (sent (tidied t)).processes e)

near_along : (n : ℕ) (t : Processes) (x : Ends) → x.near ≡ t.transceiver → (left n t).transceiver.began ≡ false → Lives x
    → Lives (record x { near = (left n t).transceiver; forth = x.forth ++ units_given n t })
near_along zero t x is e r =
    subst (λ (us : List Unit). Lives (record x { near = t.transceiver; forth = us })) (sym (append-nil x.forth)) (subst (λ (h : TransceiverState). Lives (record x { near = h })) is r)
near_along (suc n) t x is e r =
    let went : Processes = (sent (tidied t)).processes in
    let us : List Unit = option_to_list (sent (tidied t)).unit in
    let y : Ends = record x { near = went.transceiver; forth = x.forth ++ us } in
    let one : Lives y = terminals_fare.near_sends x (tidied t) (is ∙ sym (tidied_same t)) (left_began n went e) r in
    subst (λ (vs : List Unit). Lives (record x { near = (left n went).transceiver; forth = vs })) (append_assoc x.forth us (units_given n went)) (near_along n went y refl e one)

far_along : (n : ℕ) (t : Processes) (x : Ends) → x.far ≡ t.transceiver → (left n t).transceiver.began ≡ false → Lives x
    → Lives (record x { far = (left n t).transceiver; back = x.back ++ units_given n t })
far_along zero t x is e r =
    subst (λ (us : List Unit). Lives (record x { far = t.transceiver; back = us })) (sym (append-nil x.back)) (subst (λ (h : TransceiverState). Lives (record x { far = h })) is r)
far_along (suc n) t x is e r =
    let went : Processes = (sent (tidied t)).processes in
    let us : List Unit = option_to_list (sent (tidied t)).unit in
    let y : Ends = record x { far = went.transceiver; back = x.back ++ us } in
    let one : Lives y = terminals_fare.far_sends x (tidied t) (is ∙ sym (tidied_same t)) (left_began n went e) r in
    subst (λ (vs : List Unit). Lives (record x { far = (left n went).transceiver; back = vs })) (append_assoc x.back us (units_given n went)) (far_along n went y refl e one)

pub near_speaks : (l : ℕ) (c e d : LinkSet) (x : Ends) (units : ℕ) (octets : List ℕ) (by : ByLink (Spoken units octets) l c e) → Between l c d x → (end_of by.at.after).began ≡ false
    → Between l e d (record x { near = asked_end (end_of by.at.after); forth = x.forth ++ units_given by.at.was.spoken.count by.at.before.terminal.processes })
near_speaks l c e d x units octets by b none =
    let t : Processes = by.at.before.terminal.processes in
    let n : ℕ = by.at.was.spoken.count in
    let h : TransceiverState = end_of by.at.after in
    let is : x.near ≡ t.transceiver = end_before (Spoken units octets) l c e by x.near b.near in
    let now : h ≡ (left n t).transceiver = ap (λ (u : Processes). u.transceiver) by.at.was.spoken.spoke.processes in
    let went : Lives (record x { near = (left n t).transceiver; forth = x.forth ++ units_given n t }) = near_along n t x is (sym (ap (λ (g : TransceiverState). g.began) now) ∙ none) b.life in
    let as_end : Lives (record x { near = h; forth = x.forth ++ units_given n t }) = subst (λ (g : TransceiverState). Lives (record x { near = g; forth = x.forth ++ units_given n t })) (sym now) went in
    record { life = near_else (record x { near = h; forth = x.forth ++ units_given n t }) (asked_end h) as_end refl refl; near = end_behind (Spoken units octets) l c e by none; far = b.far }

pub far_speaks : (l : ℕ) (c d e : LinkSet) (x : Ends) (units : ℕ) (octets : List ℕ) (by : ByLink (Spoken units octets) l d e) → Between l c d x → (end_of by.at.after).began ≡ false
    → Between l c e (record x { far = asked_end (end_of by.at.after); back = x.back ++ units_given by.at.was.spoken.count by.at.before.terminal.processes })
far_speaks l c d e x units octets by b none =
    let t : Processes = by.at.before.terminal.processes in
    let n : ℕ = by.at.was.spoken.count in
    let h : TransceiverState = end_of by.at.after in
    let is : x.far ≡ t.transceiver = end_before (Spoken units octets) l d e by x.far b.far in
    let now : h ≡ (left n t).transceiver = ap (λ (u : Processes). u.transceiver) by.at.was.spoken.spoke.processes in
    let went : Lives (record x { far = (left n t).transceiver; back = x.back ++ units_given n t }) = far_along n t x is (sym (ap (λ (g : TransceiverState). g.began) now) ∙ none) b.life in
    let as_end : Lives (record x { far = h; back = x.back ++ units_given n t }) = subst (λ (g : TransceiverState). Lives (record x { far = g; back = x.back ++ units_given n t })) (sym now) went in
    record { life = far_else (record x { far = h; back = x.back ++ units_given n t }) (asked_end h) as_end refl refl (λ held. held); near = b.near; far = end_behind (Spoken units octets) l d e by none }

-- ---- an end continues

near_on : (x : Ends) (h : TransceiverState) → Lives (record x { near = h }) → Lives (record x { near = asked_end h })
near_on x h r = near_else (record x { near = h }) (asked_end h) r refl refl

far_on : (x : Ends) (h : TransceiverState) → Lives (record x { far = h }) → Lives (record x { far = asked_end h })
far_on x h r = far_else (record x { far = h }) (asked_end h) r refl refl (λ held. held)

-- ---- reports

pub near_reports : (l : ℕ) (c e d : LinkSet) (x : Ends) (report : Option Report) (by : ByLink (Reported report) l c e) → Between l c d x → (end_of by.at.after).began ≡ false
    → Between l e d (record x { near = asked_end (end_of by.at.after) })
near_reports l c e d x report by b none =
    let is : x.near ≡ end_of by.at.before = end_before (Reported report) l c e by x.near b.near in
    let now : (reported x.near).transceiver ≡ end_of by.at.after = ap (λ (h : TransceiverState). (reported h).transceiver) is ∙ sym (ap (λ (t : Term). t.processes.transceiver) by.at.was.terminal) in
    record {
      life = near_on x (end_of by.at.after) (subst (λ (h : TransceiverState). Lives (record x { near = h })) now (ends_heed.near_asked x b.life));
      near = end_behind (Reported report) l c e by none;
      far = b.far;
    }

pub far_reports : (l : ℕ) (c d e : LinkSet) (x : Ends) (report : Option Report) (by : ByLink (Reported report) l d e) → Between l c d x → (end_of by.at.after).began ≡ false
    → Between l c e (record x { far = asked_end (end_of by.at.after) })
far_reports l c d e x report by b none =
    let is : x.far ≡ end_of by.at.before = end_before (Reported report) l d e by x.far b.far in
    let now : (reported x.far).transceiver ≡ end_of by.at.after = ap (λ (h : TransceiverState). (reported h).transceiver) is ∙ sym (ap (λ (t : Term). t.processes.transceiver) by.at.was.terminal) in
    record {
      life = far_on x (end_of by.at.after) (subst (λ (h : TransceiverState). Lives (record x { far = h })) now (ends_heed.far_asked x b.life));
      near = b.near;
      far = end_behind (Reported report) l d e by none;
    }

-- ---- ticks

ticked_links : (n : ℕ) (c : LinkSet) → (after_ticks n c).links ≡ map asked (map (passed n) (with_room c.links))
unfolding after_ticks all_seen
ticked_links n c = refl

pub ticked_there : (n l : ℕ) (c : LinkSet) (k : Link) → slice_get c.links l ≡ Some k → slice_get (after_ticks n c).links l ≡ Some (asked (passed n (roomy k)))
ticked_there n l c k there =
    let ks : List Link = with_room c.links in
    let room : slice_get ks l ≡ Some (roomy k) = slice_get-map roomy c.links l ∙ ap (λ (o : Option Link). option_map roomy o) there in
    let passes : slice_get (map (passed n) ks) l ≡ Some (passed n (roomy k)) = slice_get-map (passed n) ks l ∙ ap (λ (o : Option Link). option_map (passed n) o) room in
    ap (λ (js : List Link). slice_get js l) (ticked_links n c) ∙ (slice_get-map asked (map (passed n) ks) l ∙ ap (λ (o : Option Link). option_map asked o) passes)

ticked_end : (n l : ℕ) (c : LinkSet) (k : Link) → slice_get c.links l ≡ Some k → (end_of (passed n (roomy k))).began ≡ false → end_at (after_ticks n c) l ≡ Some (asked_end (end_of (passed n (roomy k))))
ticked_end n l c k there none =
    ap (λ (o : Option Link). option_map end_of o) (ticked_there n l c k there) ∙ ap (λ (h : TransceiverState). Some h) (asked_plain (passed n (roomy k)) none)

pub end_is : (c : LinkSet) (l : ℕ) (k : Link) (h : TransceiverState) → slice_get c.links l ≡ Some k → end_at c l ≡ Some h → h ≡ end_of k
end_is c l k h there is = let both : Some h ≡ Some (end_of k) = sym is ∙ ap (λ (o : Option Link). option_map end_of o) there in cc

pub near_ticks : (l n : ℕ) (c d : LinkSet) (x : Ends) (k : Link) → Between l c d x → slice_get c.links l ≡ Some k → (end_of (passed n (roomy k))).began ≡ false
    → Between l (after_ticks n c) d (record x { near = asked_end (end_of (passed n (roomy k))) })
near_ticks l n c d x k b there none =
    let t : Processes = tidied k.terminal.processes in
    let is : x.near ≡ t.transceiver = end_is c l k x.near there b.near ∙ sym (tidied_same k.terminal.processes) in
    record { life = near_on x (end_of (passed n (roomy k))) (terminals_fare.near_offered x t (Advance n) is none b.life); near = ticked_end n l c k there none; far = b.far }

pub far_ticks : (l n : ℕ) (c d : LinkSet) (x : Ends) (k : Link) → Between l c d x → slice_get d.links l ≡ Some k → (end_of (passed n (roomy k))).began ≡ false
    → Between l c (after_ticks n d) (record x { far = asked_end (end_of (passed n (roomy k))) })
far_ticks l n c d x k b there none =
    let t : Processes = tidied k.terminal.processes in
    let is : x.far ≡ t.transceiver = end_is d l k x.far there b.far ∙ sym (tidied_same k.terminal.processes) in
    record { life = far_on x (end_of (passed n (roomy k))) (terminals_fare.far_offered x t (Advance n) is none b.life); near = b.near; far = ticked_end n l d k there none }

-- ---- commands

pub commanded_links : (command : Command) (i : ℕ) (c e : LinkSet) (by : ByCommand command i c e) → e.links ≡ change by.links i asked
commanded_links command i c e by =
    ap (λ (y : LinkSet). y.links) by.set
    ∙ seen_links i (record c { links = by.links; unsure = min (2 ^ 64 - 1) (c.unsure + length (cleared_at command (slice_get c.links i))); gone = c.gone ++ unsure (cleared_at command (slice_get c.links i)) })

commanded_end : (command : Command) (l : ℕ) (c e : LinkSet) (by : ByCommand command l c e) → (end_of by.at.after).began ≡ false → end_at e l ≡ Some (asked_end (end_of by.at.after))
commanded_end command l c e by none =
    let there : slice_get by.links l ≡ Some by.at.after =
    ap (λ (ks : List Link). slice_get ks l) by.at.links ∙ set_there c.links l by.at.after by.at.before by.at.there in
    ap (λ (ks : List Link). option_map end_of (slice_get ks l)) (commanded_links command l c e by)
    ∙ (ap (λ (o : Option Link). option_map end_of o) (change_here asked by.links l (Some by.at.after) there)
    ∙ ap (λ (h : TransceiverState). Some h) (asked_plain by.at.after none))

unclear : (q : Processes) → q.transceiver.clearing ≡ false → clear_obeyed q ≡ q
unfolding clear_obeyed
unclear q e = ap (λ (b : Bool). if◌then◌else◌ {A = Processes} b (buffers_emptied q) q) e

pub near_commands : (l : ℕ) (c e d : LinkSet) (x : Ends) (command : Command) (by : ByCommand command l c e) → Between l c d x
    → (behind_command command by.at.before.terminal).processes.transceiver.clearing ≡ false → (end_of by.at.after).began ≡ false
    → Between l e d (record x { near = asked_end (end_of by.at.after) })
near_commands l c e d x command by b clear none =
    let p : Processes = tidied by.at.before.terminal.processes in
    let q : Processes = offered (command_event p.names command) p in
    let is : x.near ≡ p.transceiver = end_is c l by.at.before x.near by.at.there b.near ∙ sym (tidied_same by.at.before.terminal.processes) in
    let now : end_of by.at.after ≡ q.transceiver =
    ap (λ (t : Term). t.processes.transceiver) by.at.was.terminal ∙ ap (λ (u : Processes). u.transceiver) (unclear q clear) in
    let went : Lives (record x { near = q.transceiver }) = terminals_fare.near_offered x p (command_event p.names command) is (sym (ap (λ (h : TransceiverState). h.began) now) ∙ none) b.life in
    record {
      life = near_on x (end_of by.at.after) (subst (λ (h : TransceiverState). Lives (record x { near = h })) (sym now) went);
      near = commanded_end command l c e by none;
      far = b.far;
    }

-- the event after buffers are cleared, and the state before it
abbrev none_out : Processes → Event
none_out q = offer_event q.names (acknowledgement_seen false)

abbrev cleared : Processes → Processes
cleared q = with_transceiver (calm_measured q) (clears q.transceiver)

emptied_is : (q : Processes) → buffers_emptied q ≡ offered (none_out q) (cleared q)
unfolding buffers_emptied
emptied_is q = refl

clears_began : (h : TransceiverState) → (clears h).began ≡ h.began
unfolding clears
clears_began h = refl

obeyed_began : (q : Processes) → (clear_obeyed q).transceiver.began ≡ false → q.transceiver.began ≡ false
unfolding clear_obeyed
obeyed_began q =
    by_test (λ (u : Processes). u.transceiver.began ≡ false → q.transceiver.began ≡ false) q.transceiver.clearing (buffers_emptied q) q
    (λ clearing e. sym (clears_began q.transceiver)
    ∙ (offered_keeps NearOn near_same near_joined near_signal (none_out q) (cleared q) (sym (ap (λ (u : Processes). u.transceiver.began) (emptied_is q)) ∙ e)).0)
    (λ clearing e. e)

far_emptied : (x : Ends) (q : Processes) → x.far ≡ q.transceiver → (offered (none_out q) (cleared q)).transceiver.began ≡ false → Lives x
    → Lives (record x { far = (offered (none_out q) (cleared q)).transceiver })
far_emptied x q is e r =
    let y : Ends = record x { far = clears q.transceiver } in
    let one : Lives y = subst (λ (h : TransceiverState). Lives (record x { far = clears h })) is (ends_heed.far_cleared x r) in
    terminals_fare.far_offered y (cleared q) (none_out q) refl e one

far_obeyed : (x : Ends) (q : Processes) → x.far ≡ q.transceiver → Lives x → (clear_obeyed q).transceiver.began ≡ false → Lives (record x { far = (clear_obeyed q).transceiver })
unfolding clear_obeyed
far_obeyed x q is r =
    by_test (λ (u : Processes). u.transceiver.began ≡ false → Lives (record x { far = u.transceiver })) q.transceiver.clearing (buffers_emptied q) q
    (λ clearing. subst (λ (u : Processes). u.transceiver.began ≡ false → Lives (record x { far = u.transceiver })) (sym (emptied_is q)) (λ e. far_emptied x q is e r))
    (λ clearing e. subst (λ (h : TransceiverState). Lives (record x { far = h })) is r)

pub far_commands : (l : ℕ) (c d e : LinkSet) (x : Ends) (command : Command) (by : ByCommand command l d e) → Between l c d x → (end_of by.at.after).began ≡ false
    → Between l c e (record x { far = asked_end (end_of by.at.after) })
far_commands l c d e x command by b none =
    let p : Processes = tidied by.at.before.terminal.processes in
    let q : Processes = offered (command_event p.names command) p in
    let is : x.far ≡ p.transceiver = end_is d l by.at.before x.far by.at.there b.far ∙ sym (tidied_same by.at.before.terminal.processes) in
    let now : end_of by.at.after ≡ (clear_obeyed q).transceiver = ap (λ (t : Term). t.processes.transceiver) by.at.was.terminal in
    let began : (clear_obeyed q).transceiver.began ≡ false = sym (ap (λ (h : TransceiverState). h.began) now) ∙ none in
    let went : Lives (record x { far = q.transceiver }) = terminals_fare.far_offered x p (command_event p.names command) is (obeyed_began q began) b.life in
    let behind : Lives (record x { far = (clear_obeyed q).transceiver }) = far_obeyed (record x { far = q.transceiver }) q refl went began in
    record {
      life = far_on x (end_of by.at.after) (subst (λ (h : TransceiverState). Lives (record x { far = h })) (sym now) behind);
      near = b.near;
      far = commanded_end command l d e by none;
    }

-- ---- level 3's calls about a link

-- what such a call leaves of a link's end
pub record Stays (h g : TransceiverState) : Type 0 where
  pub sender : g.sender ≡ h.sender
  pub spare : g.spare ≡ h.spare
  pub receiver : g.receiver ≡ h.receiver
  pub withheld : g.withheld ≡ h.withheld
  pub holds : is_held h.hold ≡ true → is_held g.hold ≡ true

pub stays_same : (h : TransceiverState) → Stays h h
stays_same h = record { sender = refl; spare = refl; receiver = refl; withheld = refl; holds = λ held. held }

pub stays_as : (h g i : TransceiverState) → h ≡ g → Stays i g → Stays i h
stays_as h g i e s = subst (λ (z : TransceiverState). Stays i z) (sym e) s

pub held_by_some : (o : Option Changing) → is_held (hold_by o) ≡ true
unfolding is_held
held_by_some None = refl
held_by_some (Some c) = by_test (λ (z : Hold). is_held z ≡ true) (is_out c) hold.UntilAnew hold.Kept (λ e. refl) (λ e. refl)

pub heard_stays : (what : Kind) (k : Link) → Stays (end_of k) (end_of (hears_at what k))
heard_stays what k =
    by_test (λ (z : Link). Stays (end_of k) (end_of (with_availability (marked what k) z))) (is_held_by what k.availability) (with_hold (hold_by (marked what k).changing) k) k
    (λ e. record { sender = refl; spare = refl; receiver = refl; withheld = refl; holds = λ held. held_by_some (marked what k).changing })
    (λ e. stays_same (end_of k))
