-- A call of the far set continues the life of a link; the number that its end reports is its last accepted one.
use Rattle.std.proofs.Common.{◌≡◌, ℕ, true, false, nat_lt, take, List, [], ◌∷◌, ◌++◌, Option, Some, None, refl, sym, ap, ◌∙◌, subst, inl, inr}
use Rattle.std.specs.Prelude.{◌⊎◌, slice_get, option_map}
use Rattle.std.specs.Option.{option_to_list}
use Rattle.std.proofs.lemmas.List.{append-nil}
use Rattle.resend_store.specs.declared.messages.Msu.{Msu}
use Rattle.resend_store.specs.Window.{emptied as without_kept}
use Rattle.su_octets.specs.declared.units.Unit.{Unit}
use Rattle.link_transceiver.specs.declared.offers.Offer.{Offer}
use Rattle.link_transceiver.specs.declared.signals.Hold.TheVariants as hold
use Rattle.link_transceiver.specs.TransceiverState.{TransceiverState, is_held}
use Rattle.link_processes.specs.declared.processes.Processes.{Processes}
use Rattle.link_processes.specs.Machine.{with_transceiver, calm_measured, none_out, told_of as offered_if, handed_out}
use Rattle.link_processes.specs.Offering.{offer_event}
use Rattle.group_changeover.specs.declared.changeover.Changeover.{Changeover}
use Rattle.group_changeover.specs.Saying.{number_in}
use Rattle.group_changeover.specs.Sharing.{selection_of, link_of}
use Rattle.link_group.specs.declared.link.Link.{Link}
use Rattle.link_group.specs.OneLink.{window, number_behind, accepted_of, hands_out as handed_by_number, puts}
use Rattle.link_group.specs.Doing.{Listened}
use Rattle.link_group.specs.Failing.{handed, given_up}
use Rattle.link_term.specs.Laws.{accepted_along}
use Rattle.link_term.specs.Speaking.{given as units_given}
use Rattle.link_group.specs.Ticking.{roomy, passed}
use Rattle.link_group.specs.Set.{LinkSet, change_by, sent, bound_at}
use Rattle.link_group.specs.Changing.{after_failure, order_at, after_message, reply_to, after_retrieve, after_abandon}
use Rattle.link_group.specs.Diverting.{after_divert}
use Rattle.link_group.specs.Lines.{after_admission}
use Rattle.link_group.specs.Placing.{rebalanced}
use Rattle.link_group.specs.Ticks.{with_room, after_ticks}
use Rattle.link_group.specs.Ends.{Ends, Lives, far_else, tells}
use Rattle.link_group.specs.Along.{Arrive, none_arrives}
use Rattle.link_group.specs.Joined.{end_of, end_at, Deed, number_of, Does, sends, binds, diverts, listens, speaks, gives, reports, commands, refuses, ticks, makes_room, lacks_room, rebalances, admits, fails, hears, by_other, Empties, retrieves, abandons, clears, told_behind}
use Rattle.link_group.proofs.Along.{lose_forth}
use Rattle.link_group.proofs.Terminals.{terminals_fare}
use Rattle.link_group.proofs.Between.{with_more, changed_end, puts_one, Between, Grows, divert_grows, kept_holds, far_fails as life_far_fails}
use Rattle.link_group.proofs.Calls.{asked_end, end_behind, end_before, far_gives, far_hears}
use Rattle.link_group.proofs.Getting.{change_here}
use Rattle.link_group.proofs.Heeding.{ends_heed}
use Rattle.link_group.proofs.Leaving.{Leaves, leaves_same, leaves_as, admitted_leaves, rebalanced_leaves, roomy_leaves, lacks_leaves, refused_leaves, only_one}
use Rattle.link_group.proofs.Messages.{order_number, far_heard}
use Rattle.link_group.proofs.Shut.{shut_along}
use Rattle.link_group.proofs.Within.{end_is, far_speaks, far_reports, far_ticks, far_commands}

-- ---- the effect of a call

pub record FarDid (l : ℕ) (c e : LinkSet) (y : Ends) (out rest : List Unit) (accepted : List Msu) (told : Option ℕ) : Type 0 where
  pub now : TransceiverState
  pub between : Between l c e (record y { far = now; forth = rest; back = y.back ++ out; delivered = y.delivered ++ accepted; told = told_behind told y.told })

-- Received units were under way; or they are any units, if a number was heard.
abbrev pub Comes : List Unit → Ends → List Unit → Type 0
Comes came y rest = Arrive came y.forth rest ⊎ ((p : ℕ) × (y.place ≡ Some p) × (rest ≡ y.forth))

none_comes : (y : Ends) (rest : List Unit) → Comes [] y rest → Arrive [] y.forth rest
none_comes y rest (inl a) = a
none_comes y rest (inr x) = none_arrives (sym x.2)

rest_lost : (l : ℕ) (c e : LinkSet) (z : Ends) (rest : List Unit) → Arrive [] z.forth rest → Between l c e z → Between l c e (record z { forth = rest })
rest_lost l c e z rest a b = record { life = lose_forth z z.forth rest refl a b.life; near = b.near; far = b.far }

none_back : (l : ℕ) (c e : LinkSet) (z : Ends) → Between l c e z → Between l c e (record z { back = z.back ++ [] })
none_back l c e z b = subst (λ (us : List Unit). Between l c e (record z { back = us })) (sym (append-nil z.back)) b

none_accepted : (l : ℕ) (c e : LinkSet) (z : Ends) → Between l c e z → Between l c e (record z { delivered = z.delivered ++ [] })
none_accepted l c e z b = subst (λ (ms : List Msu). Between l c e (record z { delivered = ms })) (sym (append-nil z.delivered)) b

far_out : (l : ℕ) (c e : LinkSet) (y : Ends) (g : TransceiverState) (us rest : List Unit) → Comes [] y rest → Between l c e (record y { far = g; back = y.back ++ us }) → FarDid l c e y us rest [] None
far_out l c e y g us rest a b = record {
  now = g;
  between = none_accepted l c e (record y { far = g; forth = rest; back = y.back ++ us })
      (rest_lost l c e (record y { far = g; back = y.back ++ us }) rest (none_comes y rest a) b);
}

far_tells : (l : ℕ) (c e : LinkSet) (y : Ends) (g : TransceiverState) (rest : List Unit) (told : Option ℕ) → Comes [] y rest → Between l c e (record y { far = g; told = told_behind told y.told })
    → FarDid l c e y [] rest [] told
far_tells l c e y g rest told a b = record {
  now = g;
  between = none_accepted l c e (record y { far = g; forth = rest; back = y.back ++ []; told = told_behind told y.told })
      (none_back l c e (record y { far = g; forth = rest; told = told_behind told y.told })
      (rest_lost l c e (record y { far = g; told = told_behind told y.told }) rest (none_comes y rest a) b));
}

far_plain : (l : ℕ) (c e : LinkSet) (y : Ends) (g : TransceiverState) (rest : List Unit) → Comes [] y rest → Between l c e (record y { far = g }) → FarDid l c e y [] rest [] None
far_plain l c e y g rest a b = far_tells l c e y g rest None a b

far_leaves : (l : ℕ) (c d e : LinkSet) (y : Ends) (rest : List Unit) → Between l c d y → Comes [] y rest → Leaves (slice_get d.links l) (slice_get e.links l) → FarDid l c e y [] rest [] None
far_leaves l c d e y rest b a v =
    let x = v.ends y.far b.far in
    far_plain l c e y x.0 rest a (record { life = far_else y x.0 b.life x.2.receiver x.2.withheld x.2.holds; near = b.near; far = x.1 })

-- ---- its own messages are given

far_takes : (l : ℕ) (c d e : LinkSet) (y : Ends) (ms : List Msu) (rest : List Unit) → Between l c d y → Comes [] y rest → end_at e l ≡ Some (with_more ms y.far) → FarDid l c e y [] rest [] None
far_takes l c d e y ms rest b a now =
    far_plain l c e y (with_more ms y.far) rest a (record { life = far_else y (with_more ms y.far) b.life refl refl (λ held. held); near = b.near; far = now })

sent_end : (l : ℕ) (d : LinkSet) (m : Msu) (g : TransceiverState) → link_of d.table (selection_of m) ≡ Some l → end_at d l ≡ Some g → end_at (sent d m) l ≡ Some (with_more (m ∷ []) g)
unfolding sent
sent_end l d m g link is =
    ap (λ (o : Option ℕ). option_map end_of (slice_get (change_by d.links o (puts m)) l)) link ∙ changed_end (puts m) (with_more (m ∷ [])) d.links l g (puts_one m) is

bound_end : (l : ℕ) (d : LinkSet) (m : Msu) (g : TransceiverState) → end_at d l ≡ Some g → end_at (bound_at d l m) l ≡ Some (with_more (m ∷ []) g)
unfolding bound_at
bound_end l d m g is = changed_end (puts m) (with_more (m ∷ [])) d.links l g (puts_one m) is

far_diverts : (l i : ℕ) (c d : LinkSet) (y : Ends) (rest : List Unit) → Between l c d y → Comes [] y rest → FarDid l c (after_divert d i) y [] rest [] None
far_diverts l i c d y rest b a =
    let g : Grows (slice_get d.links l) (slice_get (after_divert d i).links l) = divert_grows d i l in
    far_takes l c d (after_divert d i) y g.more rest b a (g.is ∙ ap (λ (o : Option TransceiverState). option_map (with_more g.more) o) b.far)

-- ---- octets are received

far_listens : (l : ℕ) (c d e : LinkSet) (y : Ends) (rest : List Unit) (accepted : List Msu) (g : TransceiverState) → Between l c d y → end_at e l ≡ Some (asked_end g)
    → Lives (record y { far = g; forth = rest; delivered = y.delivered ++ accepted }) → FarDid l c e y [] rest accepted None
far_listens l c d e y rest accepted g b now life = record {
  now = asked_end g;
  between = none_back l c e (record y { far = asked_end g; forth = rest; delivered = y.delivered ++ accepted }) (record {
    life = far_else (record y { far = g; forth = rest; delivered = y.delivered ++ accepted }) (asked_end g) life refl refl (λ held. held);
    near = b.near;
    far = now;
  });
}

-- ---- it reports a number

number_told : (l : ℕ) (c e : LinkSet) (z : Ends) (told : Option ℕ) → Between l c e z → ((n : ℕ) → told ≡ Some n → (n ≡ z.far.receiver.last) × (is_held z.far.hold ≡ true))
    → Between l c e (record z { told = told_behind told z.told })
number_told l c e z None b is = b
number_told l c e z (Some n) b is =
    let x = is n refl in
    subst (λ (m : ℕ). Between l c e (record z { told = Some m })) (sym x.0) (record { life = tells z b.life x.1; near = b.near; far = b.far })

there_of : (d : LinkSet) (l : ℕ) (g : TransceiverState) (o : Option Link) → slice_get d.links l ≡ o → option_map end_of o ≡ Some g → (k : Link) × (slice_get d.links l ≡ Some k) × (end_of k ≡ g)
there_of d l g None e is = absurd (cc)
there_of d l g (Some k) e is = let same : end_of k ≡ g = cc in (k, e, same)

far_fails : (l : ℕ) (c d : LinkSet) (y : Ends) (rest : List Unit) → Between l c d y → Comes [] y rest → FarDid l c (after_failure d l) y [] rest [] (number_in (order_at d l).kind)
far_fails l c d y rest b a =
    let at = there_of d l y.far (slice_get d.links l) refl b.far in
    far_tells l c (after_failure d l) y (record y.far { hold = hold.Kept }) rest (number_in (order_at d l).kind) a
    (number_told l c (after_failure d l) (record y { far = record y.far { hold = hold.Kept } }) (number_in (order_at d l).kind) (life_far_fails l c d y b)
    (λ n e. (order_number d l at.0 n at.1 e ∙ ap (λ (h : TransceiverState). h.receiver.last) at.2, kept_holds)))

far_answers : (l : ℕ) (c d : LinkSet) (y : Ends) (m : Option Changeover) (rest : List Unit) → Between l c d y → Comes [] y rest
    → FarDid l c (after_message d m) y [] rest [] (number_of l (reply_to d m))
far_answers l c d y m rest b a =
    let v = far_heard d m l y.far b.far in
    far_tells l c (after_message d m) y v.end rest (number_of l (reply_to d m)) a
    (number_told l c (after_message d m) (record y { far = v.end }) (number_of l (reply_to d m))
    (record { life = far_else y v.end b.life v.stays.receiver v.stays.withheld v.stays.holds; near = b.near; far = v.is }) v.number)

-- ---- each call

pub far_step : (l : ℕ) (c d e : LinkSet) (y : Ends) (deed : Deed) (rest : List Unit) → Does l d e deed → Between l c d y → Comes deed.came y rest → FarDid l c e y deed.out rest deed.accepted deed.told
far_step l c _ _ y _ rest (sends d m link) b a = far_takes l c d (sent d m) y (m ∷ []) rest b a (sent_end l d m y.far link b.far)
far_step l c _ _ y _ rest (binds d m) b a = far_takes l c d (bound_at d l m) y (m ∷ []) rest b a (bound_end l d m y.far b.far)
far_step l c _ _ y _ rest (diverts d i) b a = far_diverts l i c d y rest b a
far_step l c _ _ y _ rest (listens d e octets taken by bits all now h none) b (inl a) = record {
  now = asked_end (end_of by.at.after);
  between = none_back l c e (record y { far = asked_end (end_of by.at.after); forth = rest; delivered = y.delivered ++ accepted_along h }) (far_hears l c d e y octets taken by bits all now h rest b none a);
}
far_step l c _ _ y _ rest (listens d e octets taken by bits all now h none) b (inr x) =
    let is : y.far ≡ end_of by.at.before = end_before (Listened octets taken) l d e by y.far b.far in
    subst (λ (us : List Unit). FarDid l c e y [] us (accepted_along h) None) (sym x.2)
    (far_listens l c d e y y.forth (accepted_along h) (end_of by.at.after) b (end_behind (Listened octets taken) l d e by none)
    (shut_along bits all now by.at.before.terminal.processes by.at.after.terminal.processes (take taken octets) h y x.0 x.1 is none b.life))
far_step l c _ _ y _ rest (speaks d e units octets by none) b a =
    far_out l c e y (asked_end (end_of by.at.after)) (units_given by.at.was.spoken.count by.at.before.terminal.processes) rest a (far_speaks l c d e y units octets by b none)
far_step l c _ _ y _ rest (gives d e unit by none) b a = far_out l c e y (asked_end (end_of by.at.after)) (option_to_list unit) rest a (far_gives l c d e y unit by b none)
far_step l c _ _ y _ rest (reports d e report by none) b a = far_plain l c e y (asked_end (end_of by.at.after)) rest a (far_reports l c d e y report by b none)
far_step l c _ _ y _ rest (commands d e command by clear none) b a = far_plain l c e y (asked_end (end_of by.at.after)) rest a (far_commands l c d e y command by b none)
far_step l c _ _ y _ rest (refuses d e command refusal by) b a = far_leaves l c d e y rest b a (refused_leaves command refusal l d e by)
far_step l c _ _ y _ rest (ticks d n k there none) b a = far_plain l c (after_ticks n d) y (asked_end (end_of (passed n (roomy k)))) rest a (far_ticks l n c d y k b there none)
far_step l c _ _ y _ rest (makes_room d) b a = far_leaves l c d (record d { links = with_room d.links }) y rest b a (roomy_leaves d l)
far_step l c _ _ y _ rest (lacks_room d e lacks) b a = far_leaves l c d e y rest b a (lacks_leaves d e l lacks)
far_step l c _ _ y _ rest (rebalances d) b a = far_leaves l c d (rebalanced d) y rest b a (rebalanced_leaves d l)
far_step l c _ _ y _ rest (admits d i way) b a = far_leaves l c d (after_admission d i way) y rest b a (admitted_leaves d i l way)
far_step l c _ _ y _ rest (fails d) b a = far_fails l c d y rest b a
far_step l c _ _ y _ rest (hears d m) b a = far_answers l c d y m rest b a
far_step l c _ _ y _ rest (by_other d e i other one) b a =
    far_leaves l c d e y rest b a (leaves_as (slice_get d.links l) (slice_get d.links l) (slice_get e.links l) (sym (only_one i l d e other one)) (leaves_same (slice_get d.links l)))

-- ---- its buffers are emptied

offered_far : (y : Ends) (o : Option Offer) (t : Processes) → y.far ≡ t.transceiver → (offered_if o t).transceiver.began ≡ false → Lives y → Lives (record y { far = (offered_if o t).transceiver })
offered_far y None t is began r = subst (λ (h : TransceiverState). Lives (record y { far = h })) is r
offered_far y (Some o) t is began r = terminals_fare.far_offered y t (offer_event t.names o) is began r

until_holds : is_held hold.UntilAnew ≡ true
unfolding is_held
until_holds = refl

handed_far : (y : Ends) (t : Processes) (n : Option ℕ) → y.far ≡ t.transceiver → (handed_out n t).transceiver.began ≡ false → Lives y → Lives (record y { far = (handed_out n t).transceiver })
unfolding handed_out
handed_far y t n is began r =
    let h : TransceiverState = record t.transceiver { sender = without_kept t.transceiver.sender n } in
    let one : Lives (record y { far = h }) = subst (λ (g : TransceiverState). Lives (record y { far = record g { sender = without_kept g.sender n } })) is (ends_heed.far_emptied y n r) in
    offered_far (record y { far = h }) (none_out (nat_lt 0 t.transceiver.sender.sent)) (with_transceiver (calm_measured t) h) refl began one

far_hands : (y : Ends) (k : Link) (n : Option ℕ) → y.far ≡ end_of k → (end_of (handed_by_number n k)).began ≡ false → Lives y → Lives (record y { far = end_of (handed_by_number n k) })
unfolding handed_by_number
far_hands y k n is began r =
    let t : Processes = k.terminal.processes in
    let m : Option ℕ = number_behind (window k) n in
    ends_heed.far_held (record y { far = (handed_out m t).transceiver }) hold.UntilAnew until_holds (handed_far y t m is began r)

pub far_empty : (l : ℕ) (c d e : LinkSet) (y : Ends) → Empties l d e → Between l c d y → (g : TransceiverState) × Between l c e (record y { far = g })
unfolding after_retrieve after_abandon
far_empty l c _ _ y (retrieves d k there none) b =
    let is : y.far ≡ end_of k = end_is d l k y.far there b.far in (
      end_of (handed k),
      record {
        life = far_hands y k (accepted_of k) is none b.life;
        near = b.near;
        far = ap (λ (o : Option Link). option_map end_of o) (change_here handed d.links l (Some k) there);
      },
    )
far_empty l c _ _ y (abandons d k there none) b =
    let is : y.far ≡ end_of k = end_is d l k y.far there b.far in (
      end_of (given_up k),
      record {
        life = far_hands y k None is none b.life;
        near = b.near;
        far = ap (λ (o : Option Link). option_map end_of o) (change_here given_up d.links l (Some k) there);
      },
    )
far_empty l c _ _ y (clears d e command by none) b = (asked_end (end_of by.at.after), far_commands l c d e y command by b none)
