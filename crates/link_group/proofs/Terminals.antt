-- The steps of the terminals at both ends of a link are steps of a life of it.
use Rattle.std.proofs.Common.{◌≡◌, false, List, ◌++◌, Option, Some, None, refl, ap, ◌∙◌, subst}
use Rattle.std.specs.Option.{option_to_list}
use Rattle.su_octets.specs.declared.units.Unit.{Unit}
use Rattle.link_transceiver.specs.declared.offers.UnitOut.{UnitOut}
use Rattle.link_transceiver.specs.TransceiverState.{TransceiverState}
use Rattle.link_transceiver.specs.Going.{gone}
use Rattle.link_processes.specs.declared.processes.Processes.{Processes}
use Rattle.link_processes.specs.Machine.{with_transceiver, out_measured, sent_by, sent}
use Rattle.link_processes.proofs.Keeping.{offered_keeps, sent_keeps}
use Rattle.link_group.specs.Ends.{Ends, units_in, Lives, near_goes, far_goes}
use Rattle.link_group.specs.Along.{TerminalsFare}
use Rattle.link_group.proofs.Along.{NearOn, near_same, near_joined, near_signal, FarOn, far_same, far_joined, far_signal, near_along, far_along}

-- ---- sent units

unit_of : (t : Processes) (o : Option UnitOut) → units_in o ≡ option_to_list (sent_by t o).unit
unit_of t None = refl
unit_of t (Some out) = refl

sent_unit : (t : Processes) → units_in (gone t.transceiver).out ≡ option_to_list (sent t).unit
unfolding sent
sent_unit t = unit_of (with_transceiver (out_measured t) (gone t.transceiver).transceiver) (gone t.transceiver).out

near_sent : (x : Ends) (t : Processes) → x.near ≡ t.transceiver → (sent t).processes.transceiver.began ≡ false → Lives x
    → Lives (record x { near = (sent t).processes.transceiver; forth = x.forth ++ option_to_list (sent t).unit })
near_sent x t is began r =
    let h : TransceiverState = (sent t).processes.transceiver in
    let went : Lives (record x { near = h; forth = x.forth ++ units_in (gone x.near).out }) =
    (sent_keeps NearOn near_same near_joined near_signal t began).1 (record x { near = (gone x.near).transceiver; forth = x.forth ++ units_in (gone x.near).out })
    (ap (λ (k : TransceiverState). (gone k).transceiver) is) (near_goes x r) in
    subst (λ (us : List Unit). Lives (record x { near = h; forth = x.forth ++ us })) (ap (λ (k : TransceiverState). units_in (gone k).out) is ∙ sent_unit t) went

far_sent : (x : Ends) (t : Processes) → x.far ≡ t.transceiver → (sent t).processes.transceiver.began ≡ false → Lives x
    → Lives (record x { far = (sent t).processes.transceiver; back = x.back ++ option_to_list (sent t).unit })
far_sent x t is began r =
    let h : TransceiverState = (sent t).processes.transceiver in
    let went : Lives (record x { far = h; back = x.back ++ units_in (gone x.far).out }) =
    (sent_keeps FarOn far_same far_joined far_signal t began).1 (record x { far = (gone x.far).transceiver; back = x.back ++ units_in (gone x.far).out })
    (ap (λ (k : TransceiverState). (gone k).transceiver) is) (far_goes x r) in
    subst (λ (us : List Unit). Lives (record x { far = h; back = x.back ++ us })) (ap (λ (k : TransceiverState). units_in (gone k).out) is ∙ sent_unit t) went

pub terminals_fare : TerminalsFare
terminals_fare = record {
  near_offered = λ x t e is began r. (offered_keeps NearOn near_same near_joined near_signal e t began).1 x is r;
  far_offered = λ x t e is began r. (offered_keeps FarOn far_same far_joined far_signal e t began).1 x is r;
  near_sends = near_sent;
  far_sends = far_sent;
  near_hears = λ bits all now t v octets h x ws is began a r. (near_along bits all now t v octets h x ws is began a r).lives;
  far_hears = far_along;
}
