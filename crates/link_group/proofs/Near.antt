-- A call of the near set continues the life of a link; the count there is that of the number that far reported.
use Rattle.std.proofs.Common.{◌≡◌, ℕ, ◌-◌, Bool, false, List, [], ◌∷◌, ◌++◌, length, drop, Option, Some, None, refl, sym, ap, ◌∙◌, subst, inl, inr}
use Rattle.std.specs.Prelude.{◌⊎◌, if◌then◌else◌, slice_get, option_map}
use Rattle.std.specs.Option.{option_to_list}
use Rattle.std.proofs.lemmas.List.{append-nil}
use Rattle.plain_laws.proofs.Options.{none_some}
use Rattle.resend_store.specs.declared.messages.Msu.{Msu}
use Rattle.su_octets.specs.declared.units.Unit.{Unit}
use Rattle.link_transceiver.specs.TransceiverState.{TransceiverState}
use Rattle.link_processes.specs.declared.commands.Command.{Command}
use Rattle.link_processes.specs.Machine.{to_clear}
use Rattle.group_changeover.specs.declared.availability.Availability.{Availability}
use Rattle.group_changeover.specs.declared.changeover.Changeover.{Changeover}
use Rattle.group_changeover.specs.Sharing.{selection_of, link_of}
use Rattle.link_group.specs.declared.link.Link.{Link}
use Rattle.link_group.specs.OneLink.{count_told, held, puts}
use Rattle.link_group.specs.Links.{change}
use Rattle.link_group.specs.Commanding.{behind_command, started, starts_anew}
use Rattle.link_group.specs.Doing.{Listened, Spoken, Sent, Reported}
use Rattle.link_term.specs.Speaking.{given as units_given}
use Rattle.link_group.specs.Ticking.{roomy, passed}
use Rattle.link_group.specs.Set.{LinkSet, change_by, sent, bound_at}
use Rattle.link_group.specs.Changing.{after_failure, after_message, reply_to}
use Rattle.link_group.specs.Diverting.{after_divert}
use Rattle.link_group.specs.Lines.{ByLink, ByCommand, after_admission}
use Rattle.link_group.specs.Placing.{rebalanced}
use Rattle.link_group.specs.Ticks.{with_room, after_ticks}
use Rattle.link_group.specs.Ends.{Ends, gets, given, place_behind, near_else, hears as hears_told}
use Rattle.link_group.specs.Along.{Arrive}
use Rattle.link_group.specs.Joined.{end_of, end_at, Deed, all_by, all_at, more_at, number_of, if_for, Does, sends, binds, diverts, listens, speaks, gives, reports, commands, refuses, ticks, makes_room, lacks_room, rebalances, admits, fails, hears, by_other, counted_in, counted_of, counted_at, IsTold}
use Rattle.link_group.proofs.Along.{lose_back}
use Rattle.link_group.proofs.Between.{Between, Fewer, with_more, Grows, divert_grows, sends as life_sends, binds as life_binds}
use Rattle.link_group.proofs.Calls.{asked_end, end_before, near_gives, near_hears}
use Rattle.link_group.proofs.Faring.{some_place}
use Rattle.link_group.proofs.Getting.{change_here}
use Rattle.link_group.proofs.Leaving.{Leaves, leaves_same, leaves_as, failed_leaves, admitted_leaves, rebalanced_leaves, roomy_leaves, lacks_leaves, refused_leaves, only_one, there_counts, asked_counts, behind_counts, same_counts, fewer_counts, waited_counts, anew_changing, none_fewer}
use Rattle.link_group.proofs.Messages.{Counted, message_counted, told_heard, HeardFar, far_heard}
use Rattle.link_group.proofs.Within.{ticked_there, commanded_links, near_speaks, near_reports, near_ticks, near_commands}

-- ---- the effect of a call

pub record NearDid (l : ℕ) (e d : LinkSet) (y : Ends) (out rest : List Unit) (more : List Msu) : Type 0 where
  pub now : TransceiverState
  pub place : Option ℕ
  pub between : Between l e d (record y { near = now; forth = y.forth ++ out; back = rest; taken = y.taken ++ more; place = place })
  pub counts : Fewer place (counted_of (slice_get e.links l))

rest_lost : (l : ℕ) (e d : LinkSet) (z : Ends) (rest : List Unit) → Arrive [] z.back rest → Between l e d z → Between l e d (record z { back = rest })
rest_lost l e d z rest a b = record { life = lose_back z z.back rest refl a b.life; near = b.near; far = b.far }

none_out : (l : ℕ) (e d : LinkSet) (z : Ends) → Between l e d z → Between l e d (record z { forth = z.forth ++ [] })
none_out l e d z b = subst (λ (us : List Unit). Between l e d (record z { forth = us })) (sym (append-nil z.forth)) b

none_given : (l : ℕ) (e d : LinkSet) (z : Ends) → Between l e d z → Between l e d (record z { taken = z.taken ++ [] })
none_given l e d z b = subst (λ (ms : List Msu). Between l e d (record z { taken = ms })) (sym (append-nil z.taken)) b

near_plain : (l : ℕ) (e d : LinkSet) (y : Ends) (h : TransceiverState) (place : Option ℕ) (rest : List Unit) → Arrive [] y.back rest → Between l e d (record y { near = h; place = place })
    → Fewer place (counted_of (slice_get e.links l)) → NearDid l e d y [] rest []
near_plain l e d y h place rest a b counts = record {
  now = h;
  place = place;
  between = none_given l e d (record y { near = h; forth = y.forth ++ []; back = rest; place = place })
      (none_out l e d (record y { near = h; back = rest; place = place }) (rest_lost l e d (record y { near = h; place = place }) rest a b));
  counts = counts;
}

near_given : (l : ℕ) (e d : LinkSet) (y : Ends) (ms : List Msu) (rest : List Unit) → Arrive [] y.back rest → Between l e d (given ms y) → Fewer y.place (counted_of (slice_get e.links l))
    → NearDid l e d y [] rest ms
near_given l e d y ms rest a b counts = record {
  now = with_more ms y.near;
  place = y.place;
  between = none_out l e d (record (given ms y) { back = rest }) (rest_lost l e d (given ms y) rest a b);
  counts = counts;
}

near_out : (l : ℕ) (e d : LinkSet) (y : Ends) (h : TransceiverState) (us rest : List Unit) → Arrive [] y.back rest → Between l e d (record y { near = h; forth = y.forth ++ us })
    → Fewer y.place (counted_of (slice_get e.links l)) → NearDid l e d y us rest []
near_out l e d y h us rest a b counts = record {
  now = h;
  place = y.place;
  between = none_given l e d (record y { near = h; forth = y.forth ++ us; back = rest }) (rest_lost l e d (record y { near = h; forth = y.forth ++ us }) rest a b);
  counts = counts;
}

near_leaves : (l : ℕ) (c e d : LinkSet) (y : Ends) (rest : List Unit) → Between l c d y → Fewer y.place (counted_of (slice_get c.links l)) → Arrive [] y.back rest
    → Leaves (slice_get c.links l) (slice_get e.links l) → NearDid l e d y [] rest []
near_leaves l c e d y rest b counts a v =
    let x = v.ends y.near b.near in
    near_plain l e d y x.0 y.place rest a (record { life = near_else y x.0 b.life x.2.sender x.2.spare; near = x.1; far = b.far }) (λ p f. counts p (v.counts p f))

-- ---- messages are given

put_link : (m : Msu) (o : Option Link) → Fewer (counted_of o) (counted_of (option_map (puts m) o))
unfolding puts
put_link m None = λ p e. e
put_link m (Some k) = λ p e. e

put_counts : (m : Msu) (ks : List Link) (l : ℕ) → Fewer (counted_of (slice_get ks l)) (counted_of (slice_get (change ks l (puts m)) l))
put_counts m ks l = λ p e. put_link m (slice_get ks l) p (ap counted_of (sym (change_here (puts m) ks l (slice_get ks l) refl)) ∙ e)

sent_counts : (l : ℕ) (c : LinkSet) (m : Msu) → link_of c.table (selection_of m) ≡ Some l → Fewer (counted_of (slice_get c.links l)) (counted_of (slice_get (sent c m).links l))
unfolding sent
sent_counts l c m link = λ p e. put_counts m c.links l p (ap (λ (o : Option ℕ). counted_of (slice_get (change_by c.links o (puts m)) l)) (sym link) ∙ e)

bound_counts : (l : ℕ) (c : LinkSet) (m : Msu) → Fewer (counted_of (slice_get c.links l)) (counted_of (slice_get (bound_at c l m).links l))
unfolding bound_at
bound_counts l c m = put_counts m c.links l

-- the messages held at an end
abbrev kept_in : Option TransceiverState → List Msu
kept_in None = []
kept_in (Some h) = h.sender.kept

all_in : (o : Option Link) → all_by o ≡ kept_in (option_map end_of o)
all_in None = refl
all_in (Some k) = refl

drop_front : (xs ys : List Msu) → drop (length xs) (xs ++ ys) ≡ ys
drop_front [] ys = refl
drop_front (x ∷ xs) ys = drop_front xs ys

more_is : (l : ℕ) (c e : LinkSet) (h : TransceiverState) (ms : List Msu) → end_at c l ≡ Some h → end_at e l ≡ Some (with_more ms h) → more_at l c e ≡ ms
more_is l c e h ms was now =
    let before : all_at c l ≡ h.sender.kept = all_in (slice_get c.links l) ∙ ap kept_in was in
    let behind : all_at e l ≡ h.sender.kept ++ ms = all_in (slice_get e.links l) ∙ ap kept_in now in
    ap (λ (xs : List Msu). drop (length xs) (all_at e l)) before ∙ (ap (λ (xs : List Msu). drop (length h.sender.kept) xs) behind ∙ drop_front h.sender.kept ms)

near_diverts : (l i : ℕ) (c d : LinkSet) (y : Ends) (rest : List Unit) → Between l c d y → Fewer y.place (counted_of (slice_get c.links l)) → Arrive [] y.back rest
    → NearDid l (after_divert c i) d y [] rest (more_at l c (after_divert c i))
near_diverts l i c d y rest b counts a =
    let g : Grows (slice_get c.links l) (slice_get (after_divert c i).links l) = divert_grows c i l in
    let now : end_at (after_divert c i) l ≡ Some (with_more g.more y.near) = g.is ∙ ap (λ (o : Option TransceiverState). option_map (with_more g.more) o) b.near in
    let went : NearDid l (after_divert c i) d y [] rest g.more =
    near_given l (after_divert c i) d y g.more rest a (record { life = gets y g.more b.life; near = now; far = b.far }) (λ p e. counts p (g.counts p e)) in
    subst (λ (ms : List Msu). NearDid l (after_divert c i) d y [] rest ms) (sym (more_is l c (after_divert c i) y.near g.more b.near now)) went

-- ---- calls of its terminal

listened_counts : (l : ℕ) (c e : LinkSet) (y : Ends) (octets : List ℕ) (taken : ℕ) (by : ByLink (Listened octets taken) l c e) → (end_of by.at.after).began ≡ false → y.near ≡ end_of by.at.before
    → Fewer y.place (counted_of (slice_get c.links l))
    → Fewer (place_behind (length y.near.sender.kept - length (end_of by.at.after).sender.kept) y.place) (counted_of (slice_get e.links l))
listened_counts l c e y octets taken by none is counts = λ p f.
    let old : Link = by.at.before in
    let n : ℕ = length (held old) - length (held by.at.after) in
    let now : place_behind n (counted_of (Some old)) ≡ Some p =
    sym (fewer_counts n old.availability.changing)
    ∙ (ap (λ (m : Availability). counted_in m.changing) (sym by.at.was.availability) ∙ (sym (behind_counts (Listened octets taken) l c e by none) ∙ f)) in
    let at = some_place n (counted_of (Some old)) p now in
    let place : y.place ≡ Some at.0 = counts at.0 (ap counted_of by.at.there ∙ at.1) in
    ap (λ (h : TransceiverState). place_behind (length h.sender.kept - length (end_of by.at.after).sender.kept) y.place) is
    ∙ (ap (λ (o : Option ℕ). place_behind n o) place ∙ ap (λ (q : ℕ). Some q) (sym at.2))

commanded_counts : (l : ℕ) (c e : LinkSet) (command : Command) (by : ByCommand command l c e) → (behind_command command by.at.before.terminal).processes.transceiver.clearing ≡ false
    → (end_of by.at.after).began ≡ false → Fewer (counted_of (slice_get c.links l)) (counted_of (slice_get e.links l))
commanded_counts l c e command by clear none = λ p f.
    let old : Link = by.at.before in
    let t = behind_command command old.terminal in
    let n : ℕ = to_clear t.processes in
    let zero_is : n ≡ 0 = ap (λ (b : Bool). if◌then◌else◌ {A = ℕ} b (length t.processes.transceiver.sender.kept) 0) clear in
    let now : counted_of (slice_get e.links l) ≡ counted_of (Some by.at.after) =
    there_counts c.links by.links e.links l old by.at.after by.at.there by.at.links (commanded_links command l c e by) none in
    ap counted_of by.at.there
    ∙ (ap counted_in (sym (anew_changing (starts_anew command old) old.availability))
    ∙ none_fewer n (started command old).changing zero_is p (ap (λ (m : Availability). counted_in m.changing) (sym by.at.was.availability) ∙ (sym now ∙ f)))

ticked_counts : (l n : ℕ) (c : LinkSet) (k : Link) → slice_get c.links l ≡ Some k → (end_of (passed n (roomy k))).began ≡ false
    → Fewer (counted_of (slice_get c.links l)) (counted_of (slice_get (after_ticks n c).links l))
ticked_counts l n c k there none = λ p f.
    ap counted_of there
    ∙ (sym (waited_counts n k.availability.changing)
    ∙ (sym (asked_counts (passed n (roomy k)) none) ∙ (ap counted_of (sym (ticked_there n l c k there)) ∙ f)))

-- ---- a changeover message is received

near_either : (l p : ℕ) (c d : LinkSet) (y : Ends) (m : Option Changeover) (rest : List Unit) → Between l c d y → Fewer y.place (counted_of (slice_get c.links l)) → Arrive [] y.back rest
    → IsTold (number_of l (if_for c m)) y.told → HeardFar (slice_get c.links l) (slice_get (after_message c m).links l) y.near (number_of l (reply_to c m))
    → counted_of (slice_get (after_message c m).links l) ≡ Some p → Counted (slice_get c.links l) (number_of l (if_for c m)) p → NearDid l (after_message c m) d y [] rest []
near_either l p c d y m rest b counts a is v e (inl x) =
    near_plain l (after_message c m) d y v.end y.place rest a (record { life = near_else y v.end b.life v.stays.sender v.stays.spare; near = v.is; far = b.far }) (λ q f. counts p x ∙ (sym e ∙ f))
near_either l p c d y m rest b counts a is v e (inr g) =
    let place : Option ℕ = count_told y.near.sender y.told in
    let so : place ≡ Some p = told_heard y.near.sender (number_of l (if_for c m)) y.told p is (g y.near b.near) in
    near_plain l (after_message c m) d y v.end place rest a
    (record { life = near_else (record y { place = place }) v.end (hears_told y b.life) v.stays.sender v.stays.spare; near = v.is; far = b.far }) (λ q f. so ∙ (sym e ∙ f))

near_by : (l : ℕ) (c d : LinkSet) (y : Ends) (m : Option Changeover) (rest : List Unit) → Between l c d y → Fewer y.place (counted_at c l) → Arrive [] y.back rest
    → IsTold (number_of l (if_for c m)) y.told ⊎ (counted_at (after_message c m) l ≡ counted_at c l) → (o : Option ℕ) → counted_at (after_message c m) l ≡ o → NearDid l (after_message c m) d y [] rest []
near_by l c d y m rest b counts a (inl is) (Some p) e = near_either l p c d y m rest b counts a is (far_heard c m l y.near b.near) e (message_counted c m l p e)
near_by l c d y m rest b counts a (inl is) None e =
    let v = far_heard c m l y.near b.near in
    near_plain l (after_message c m) d y v.end y.place rest a (record { life = near_else y v.end b.life v.stays.sender v.stays.spare; near = v.is; far = b.far })
    (λ q f. absurd (none_some (sym e ∙ f)))
near_by l c d y m rest b counts a (inr same) o e =
    let v = far_heard c m l y.near b.near in
    near_plain l (after_message c m) d y v.end y.place rest a (record { life = near_else y v.end b.life v.stays.sender v.stays.spare; near = v.is; far = b.far })
    (λ q f. counts q (sym same ∙ f))

-- ---- each call

pub near_step : (l : ℕ) (c e d : LinkSet) (y : Ends) (deed : Deed) (rest : List Unit) → Does l c e deed → Between l c d y → Fewer y.place (counted_of (slice_get c.links l))
    → Arrive deed.came y.back rest → IsTold deed.heard y.told ⊎ (counted_at e l ≡ counted_at c l) → NearDid l e d y deed.out rest deed.given
near_step l _ _ d y _ rest (sends c m link) b counts a is =
    near_given l (sent c m) d y (m ∷ []) rest a (life_sends l c d y m b link) (λ p f. counts p (sent_counts l c m link p f))
near_step l _ _ d y _ rest (binds c m) b counts a is = near_given l (bound_at c l m) d y (m ∷ []) rest a (life_binds l c d y m b) (λ p f. counts p (bound_counts l c m p f))
near_step l _ _ d y _ rest (diverts c i) b counts a is = near_diverts l i c d y rest b counts a
near_step l _ _ d y _ rest (listens c e octets taken by bits all now h none) b counts a is =
    let place : Option ℕ = place_behind (length y.near.sender.kept - length (end_of by.at.after).sender.kept) y.place in
    record {
      now = asked_end (end_of by.at.after);
      place = place;
      between = none_given l e d (record y { near = asked_end (end_of by.at.after); forth = y.forth ++ []; back = rest; place = place })
          (none_out l e d (record y { near = asked_end (end_of by.at.after); back = rest; place = place }) (near_hears l c e d y octets taken by bits all now h rest b none a));
      counts = listened_counts l c e y octets taken by none (end_before (Listened octets taken) l c e by y.near b.near) counts;
    }
near_step l _ _ d y _ rest (speaks c e units octets by none) b counts a is =
    near_out l e d y (asked_end (end_of by.at.after)) (units_given by.at.was.spoken.count by.at.before.terminal.processes) rest a (near_speaks l c e d y units octets by b none)
    (λ p f. counts p (same_counts (Spoken units octets) l c e by none by.at.was.availability p f))
near_step l _ _ d y _ rest (gives c e unit by none) b counts a is =
    near_out l e d y (asked_end (end_of by.at.after)) (option_to_list unit) rest a (near_gives l c e d y unit by b none)
    (λ p f. counts p (same_counts (Sent unit) l c e by none by.at.was.availability p f))
near_step l _ _ d y _ rest (reports c e report by none) b counts a is =
    near_plain l e d y (asked_end (end_of by.at.after)) y.place rest a (near_reports l c e d y report by b none)
    (λ p f. counts p (same_counts (Reported report) l c e by none by.at.was.availability p f))
near_step l _ _ d y _ rest (commands c e command by clear none) b counts a is =
    near_plain l e d y (asked_end (end_of by.at.after)) y.place rest a (near_commands l c e d y command by b clear none)
    (λ p f. counts p (commanded_counts l c e command by clear none p f))
near_step l _ _ d y _ rest (refuses c e command refusal by) b counts a is = near_leaves l c e d y rest b counts a (refused_leaves command refusal l c e by)
near_step l _ _ d y _ rest (ticks c n k there none) b counts a is =
    near_plain l (after_ticks n c) d y (asked_end (end_of (passed n (roomy k)))) y.place rest a (near_ticks l n c d y k b there none)
    (λ p f. counts p (ticked_counts l n c k there none p f))
near_step l _ _ d y _ rest (makes_room c) b counts a is = near_leaves l c (record c { links = with_room c.links }) d y rest b counts a (roomy_leaves c l)
near_step l _ _ d y _ rest (lacks_room c e lacks) b counts a is = near_leaves l c e d y rest b counts a (lacks_leaves c e l lacks)
near_step l _ _ d y _ rest (rebalances c) b counts a is = near_leaves l c (rebalanced c) d y rest b counts a (rebalanced_leaves c l)
near_step l _ _ d y _ rest (admits c i way) b counts a is = near_leaves l c (after_admission c i way) d y rest b counts a (admitted_leaves c i l way)
near_step l _ _ d y _ rest (fails c) b counts a is = near_leaves l c (after_failure c l) d y rest b counts a (failed_leaves c l l)
near_step l _ _ d y _ rest (hears c m) b counts a is = near_by l c d y m rest b counts a is (counted_at (after_message c m) l) refl
near_step l _ _ d y _ rest (by_other c e i other one) b counts a is =
    near_leaves l c e d y rest b counts a (leaves_as (slice_get c.links l) (slice_get c.links l) (slice_get e.links l) (sym (only_one i l c e other one)) (leaves_same (slice_get c.links l)))
