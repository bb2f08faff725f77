-- What far accepted, then what is retrieved with the number that it reported, is what near was given.
use Rattle.std.proofs.Common.{◌≡◌, ℕ, ◌+◌, ◌-◌, ◌≤◌, Bool, true, false, List, [], ◌∷◌, ◌++◌, length, Option, Some, None, nat_le, is_some, refl, sym, ap, ◌∙◌, subst, arith}
use Rattle.std.specs.Prelude.{if◌then◌else◌, unwrap_or}
use Rattle.std.proofs.lemmas.Bool.{le-leb}
use Rattle.std.proofs.lemmas.List.{append-nil, length-append}
use Rattle.resend_store.specs.declared.messages.Msu.{Msu}
use Rattle.resend_store.specs.declared.messages.Outgoing.{Outgoing}
use Rattle.resend_store.specs.Window.{Window, next, count_by, after_back}
use Rattle.resend_store.specs.Intake.{Intake, hear}
use Rattle.resend_store.specs.Runs.{on_back, accepted, step}
use Rattle.resend_store.specs.Exchange.{Answer, Exchange}
use Rattle.resend_store.proofs.Sent.{next_fine}
use Rattle.resend_store.proofs.Delivery.{none_left, none_back, one_back, Sound}
use Rattle.su_octets.specs.declared.units.Unit.{Unit}
use Rattle.su_octets.specs.declared.units.Unit.TheVariants as unit
use Rattle.link_transceiver.specs.declared.signals.Backward.{Backward}
use Rattle.link_transceiver.specs.declared.signals.EnvSignal.TheVariants as signal
use Rattle.link_transceiver.specs.TransceiverState.{TransceiverState, is_held}
use Rattle.link_transceiver.specs.Effects.{effect, renewed, renewed_backward, backward_of}
use Rattle.link_transceiver.specs.Judging.{judged}
use Rattle.link_transceiver.specs.Going.{gone, backward_out}
use Rattle.link_transceiver.specs.Laws.{Loses, accepted_of, acknowledged_of}
use Rattle.link_transceiver.proofs.Acknowledging.{keeps_unacknowledged}
use Rattle.link_transceiver.proofs.Holding.{holds_back}
use Rattle.link_transceiver.proofs.Withholding.{withholds as stays_withheld}
use Rattle.link_group.specs.OneLink.{count_told}
use Rattle.link_group.specs.Ends.{Ends, units_in, ends_anew, given, near_sends, far_sends, arrived, place_behind, came_back, Lives, begins, gets, near_goes, far_goes, arrives, is_lost, comes_back, is_lost_back, withholds, acknowledges, near_else, far_else, tells, hears, EndsComplete}
use Rattle.link_group.proofs.Units.{outgoing_of, outgoing_in, outgoings, outgoings-append, telling_of, telling_in, telling_by, tellings, tellings-append, says_none, fills_in, gives_one, going, SameIntake, tells_none, tells_one, answering, Comes, passes_by, is_judged, status_comes, unit_comes, coming_in, Obeys, ignores, is_obeyed, status_back, unit_back, coming_back, judged_spare}
use Rattle.link_group.proofs.Sounding.{sound_given, sound_sent, sound_filled, sound_arrived, sound_lost, sound_came_back, sound_lost_back, sound_answered, sound_front, sound_again, sound_place, sound_few, sound_sizes, sound_whole, sound_in_order}

-- ---- one direction, as both ends' stores see it

-- the withheld number and bit are sent from now on, whatever is received
abbrev withheld_in : Option Backward → List Answer
withheld_in None = []
withheld_in (Some b) = telling_by b ∷ []

abbrev exchange_of : Ends → Exchange
exchange_of x = record {
  sender = x.near.sender;
  receiver = x.far.receiver;
  forth = outgoings x.forth;
  back = tellings x.back ++ withheld_in x.far.withheld;
  taken = x.taken;
  delivered = x.delivered;
}

-- the invariant of each moment
record Fares (x : Ends) : Type 0 where
  sound : Sound (exchange_of x)
  spare : x.near.spare ≡ 0
  told : (n : ℕ) → x.told ≡ Some n → (is_held x.far.hold ≡ true) × (n ≡ x.far.receiver.last)
  place : (p : ℕ) → x.place ≡ Some p → (is_held x.far.hold ≡ true) × (p + length x.taken ≡ length x.delivered + length x.near.sender.kept)

none_some : {A : Type 0} (n : A) → None ≡ Some n → ⊥
none_some n e = cc

-- ---- both restart

withheld_anew : (o : Option Backward) (w : Window) (r : Intake) (ms : List Msu) → w.kept ≡ ms → w.sent ≡ 0 → w.first ≡ 0 → w.again ≡ 0 → w.turn ≡ 0 → r.last ≡ 127
    → Sound (record { sender = w; receiver = r; forth = []; back = withheld_in (renewed_backward o); taken = ms; delivered = [] })
withheld_anew None w r ms kept sent first again turn last = record {
  a = 0;
  d = 0;
  fine = record { fits = omega (arith, sent); narrow = omega (arith, sent); again = omega (arith, again); turn = omega (arith, turn) };
  kept = kept;
  first = first;
  inside = omega arith;
  reached = omega arith;
  last = omega (arith, last);
  delivered = refl;
  forth = none_left;
  back = none_back (omega arith);
}
withheld_anew (Some b) w r ms kept sent first again turn last = record {
  a = 0;
  d = 0;
  fine = record { fits = omega (arith, sent); narrow = omega (arith, sent); again = omega (arith, again); turn = omega (arith, turn) };
  kept = kept;
  first = first;
  inside = omega arith;
  reached = omega arith;
  last = omega (arith, last);
  delivered = refl;
  forth = none_left;
  back = one_back 0 (omega arith) refl (none_back (omega arith));
}

fares_anew : (h g : TransceiverState) → Fares (ends_anew h g)
unfolding renewed
fares_anew h g = record {
  sound = withheld_anew g.withheld (renewed h).sender (renewed g).receiver (renewed h).sender.kept refl refl refl refl refl refl;
  spare = refl;
  told = λ n e. absurd (none_some n e);
  place = λ p e. absurd (none_some p e);
}

-- ---- messages are given to near

fares_given : (x : Ends) (ms : List Msu) → Fares x → Fares (given ms x)
fares_given x ms f = record {
  sound = sound_given (exchange_of x) ms f.sound;
  spare = f.spare;
  told = f.told;
  place = λ p e. let was = f.place p e in (was.0, omega (arith, was.1, length-append x.taken ms, length-append x.near.sender.kept ms));
}

-- ---- near sends a unit

sound_as : (x : Exchange) (w : Window) (us : List Outgoing) → w ≡ x.sender → us ≡ x.forth → Sound x → Sound (record x { sender = w; forth = us })
sound_as x w us e f h =
    subst (λ (v : Window). Sound (record x { sender = v; forth = us })) (sym e) (subst (λ (vs : List Outgoing). Sound (record x { forth = vs })) (sym f) h)

fares_near : (x : Ends) (h : TransceiverState) (us : List Unit) (os : List Outgoing) → outgoings us ≡ os → h.spare ≡ 0 → length h.sender.kept ≡ length x.near.sender.kept
    → Sound (record (exchange_of x) { sender = h.sender; forth = outgoings x.forth ++ os }) → Fares x → Fares (record x { near = h; forth = x.forth ++ us })
fares_near x h us os is spare kept sound f = record {
  sound = subst (λ (vs : List Outgoing). Sound (record (exchange_of x) { sender = h.sender; forth = vs }))
      (sym (outgoings-append x.forth us ∙ ap (λ (vs : List Outgoing). outgoings x.forth ++ vs) is)) sound;
  spare = spare;
  told = f.told;
  place = λ p e. let was = f.place p e in (was.0, omega (arith, was.1, kept));
}

fares_near_sends : (x : Ends) → Fares x → Fares (near_sends x)
fares_near_sends x f =
    let g = gone x.near in
    elim (going x.near) [
      | says_none none same spare ↦
          fares_near x g.transceiver (units_in g.out) [] none (spare ∙ f.spare) (ap (λ (w : Window). length w.kept) same)
          (sound_as (exchange_of x) g.transceiver.sender (outgoings x.forth ++ []) same (append-nil (outgoings x.forth)) f.sound) f
      | fills_in u one none same spare ↦
          fares_near x g.transceiver (units_in g.out) (u ∷ []) one (spare ∙ f.spare) (ap (λ (w : Window). length w.kept) same)
          (subst (λ (w : Window). Sound (record (exchange_of x) { sender = w; forth = outgoings x.forth ++ u ∷ [] })) (sym same) (sound_filled (exchange_of x) u none f.sound)) f
      | gives_one one same spare ↦
          fares_near x g.transceiver (units_in g.out) ((next x.near.sender).unit ∷ []) one (spare f.spare)
          (ap (λ (w : Window). length w.kept) same ∙ ap (λ (ms : List Msu). length ms) (next_fine x.near.sender f.sound.fine).kept_on)
          (subst (λ (w : Window). Sound (record (exchange_of x) { sender = w; forth = outgoings x.forth ++ (next x.near.sender).unit ∷ [] })) (sym same) (sound_sent (exchange_of x) f.sound)) f
    ]

-- ---- far sends a unit

answers_by : (x : Exchange) (o : Option Backward) (bs : List Answer) → x.back ≡ bs ++ withheld_in o → Sound x
    → Sound (record x { back = (bs ++ telling_by (unwrap_or o (backward_of x.receiver)) ∷ []) ++ withheld_in o })
answers_by x None bs e h =
    let now : List Answer = bs ++ telling_by (backward_of x.receiver) ∷ [] in
    let same : x.back ≡ bs = e ∙ append-nil bs in
    subst (λ (cs : List Answer). Sound (record x { back = cs })) (ap (λ (cs : List Answer). cs ++ telling_by (backward_of x.receiver) ∷ []) same ∙ sym (append-nil now)) (sound_answered x h)
answers_by x (Some b) bs e h = sound_again x bs (telling_by b) e h

fares_far : (x : Ends) (g : TransceiverState) (us : List Unit) (bs : List Answer) → tellings us ≡ bs → SameIntake x.far g
    → Sound (record (exchange_of x) { back = (tellings x.back ++ bs) ++ withheld_in x.far.withheld }) → Fares x → Fares (record x { far = g; back = x.back ++ us })
fares_far x g us bs is same sound f = record {
  sound = subst (λ (r : Intake). Sound (record (exchange_of x) { receiver = r; back = tellings (x.back ++ us) ++ withheld_in g.withheld })) (sym same.receiver)
      (subst (λ (cs : List Answer). Sound (record (exchange_of x) { back = cs }))
      (sym (ap (λ (cs : List Answer). cs ++ withheld_in g.withheld) (tellings-append x.back us ∙ ap (λ (cs : List Answer). tellings x.back ++ cs) is)
      ∙ ap (λ (o : Option Backward). (tellings x.back ++ bs) ++ withheld_in o) same.withheld)) sound);
  spare = f.spare;
  told = λ n e. let was = f.told n e in (ap is_held same.hold ∙ was.0, was.1 ∙ ap (λ (r : Intake). r.last) (sym same.receiver));
  place = λ p e. let was = f.place p e in (ap is_held same.hold ∙ was.0, was.1);
}

fares_far_sends : (x : Ends) → Fares x → Fares (far_sends x)
fares_far_sends x f =
    let g = gone x.far in
    elim (answering x.far) [
      | tells_none none same ↦
          fares_far x g.transceiver (units_in g.out) [] none same
          (subst (λ (cs : List Answer). Sound (record (exchange_of x) { back = cs ++ withheld_in x.far.withheld })) (sym (append-nil (tellings x.back))) f.sound) f
      | tells_one one same ↦
          fares_far x g.transceiver (units_in g.out) (telling_by (backward_out x.far) ∷ []) one same (answers_by (exchange_of x) x.far.withheld (tellings x.back) refl f.sound) f
    ]

-- ---- a unit arrives at far, or is lost

fares_at_far : (x : Ends) (u : Unit) (us : List Unit) (ms : List Msu) → ms ≡ accepted_of x.far u
    → Sound (record (exchange_of x) { receiver = (judged x.far u).transceiver.receiver; forth = outgoings us; delivered = x.delivered ++ ms }) → Fares x → Fares (arrived u us x)
fares_at_far x u us ms is sound f =
    let g = (judged x.far u).transceiver in
    let withheld : g.withheld ≡ x.far.withheld = stays_withheld.on_unit x.far u in
    let hold : g.hold ≡ x.far.hold = holds_back.stays_in x.far u in
    record {
      sound = subst (λ (o : Option Backward). Sound (record (exchange_of x) {
        receiver = g.receiver;
        forth = outgoings us;
        back = tellings x.back ++ withheld_in o;
        delivered = x.delivered ++ accepted_of x.far u;
      })) (sym withheld)
          (subst (λ (xs : List Msu). Sound (record (exchange_of x) { receiver = g.receiver; forth = outgoings us; delivered = x.delivered ++ xs })) is sound);
      spare = f.spare;
      told = λ n e. let was = f.told n e in (ap is_held hold ∙ was.0, was.1 ∙ ap (λ (r : Intake). r.last) (sym (holds_back.receiver x.far u was.0)));
      place = λ p e.
          let was = f.place p e in
          let none : accepted_of x.far u ≡ [] = holds_back.on_unit x.far u was.0 in
          let size : length (x.delivered ++ accepted_of x.far u) ≡ length x.delivered =
          ap (λ (xs : List Msu). length (x.delivered ++ xs)) none ∙ ap (λ (xs : List Msu). length xs) (append-nil x.delivered) in
          (ap is_held hold ∙ was.0, omega (arith, was.1, size));
    }

lost_front : (x : Exchange) (u : Unit) (us : List Unit) → x.forth ≡ outgoing_in u ++ outgoings us → Sound x → Sound (record x { forth = outgoings us })
lost_front x (unit.Fisu head) us e h = sound_lost x (outgoing_of head None) (outgoings us) e h
lost_front x (unit.Msu head sio sif) us e h = sound_lost x (outgoing_of head (Some (record { sio = sio; sif = sif }))) (outgoings us) e h
lost_front x (unit.Lssu head status second) us e h = subst (λ (vs : List Outgoing). Sound (record x { forth = vs })) e h

-- a unit that skips the stores leaves the receiver
passed : (x : Exchange) (r : Intake) (ms : List Msu) → r ≡ x.receiver → ms ≡ [] → Sound x → Sound (record x { receiver = r; delivered = x.delivered ++ ms })
passed x r ms e none h =
    subst (λ (q : Intake). Sound (record x { receiver = q; delivered = x.delivered ++ ms })) (sym e)
    (subst (λ (xs : List Msu). Sound (record x { delivered = xs })) (sym (ap (λ (xs : List Msu). x.delivered ++ xs) none ∙ append-nil x.delivered)) h)

came_to : (x : Exchange) (o : Outgoing) (us : List Outgoing) (r : Intake) (ms : List Msu) → x.forth ≡ o ∷ us → Comes x.receiver r o ms → Sound x
    → Sound (record x { receiver = r; forth = us; delivered = x.delivered ++ ms })
came_to x o us r ms e (passes_by same none) h = passed (record x { forth = us }) r ms same none (sound_lost x o us e h)
came_to x o us r ms e (is_judged known accepts) h =
    subst (λ (q : Intake). Sound (record x { receiver = q; forth = us; delivered = x.delivered ++ ms })) (sym known)
    (subst (λ (xs : List Msu). Sound (record x { receiver = (hear x.receiver o.fsn o.fib (is_some o.msu)).known; forth = us; delivered = x.delivered ++ xs })) (sym accepts) (sound_arrived x o us e h))

fares_arrived : (x : Ends) (u : Unit) (us : List Unit) → x.forth ≡ u ∷ us → Fares x → Fares (arrived u us x)
fares_arrived x u us e f =
    let r = (judged x.far u).transceiver.receiver in
    let forth : outgoings x.forth ≡ outgoing_in u ++ outgoings us = ap outgoings e in
    fares_at_far x u us (accepted_of x.far u) refl (elim (coming_in x.far u) [
      | status_comes none same accepts ↦ passed (record (exchange_of x) { forth = outgoings us }) r (accepted_of x.far u) same accepts (lost_front (exchange_of x) u us forth f.sound)
      | unit_comes o one comes ↦ came_to (exchange_of x) o (outgoings us) r (accepted_of x.far u) (forth ∙ ap (λ (os : List Outgoing). os ++ outgoings us) one) comes f.sound
    ]) f

fares_lost : (x : Ends) (u : Unit) (us : List Unit) → x.forth ≡ u ∷ us → Fares x → Fares (record x { forth = us })
fares_lost x u us e f = record { sound = lost_front (exchange_of x) u us (ap outgoings e) f.sound; spare = f.spare; told = f.told; place = f.place }

-- ---- a unit arrives at near, or is lost

lost_answer : (x : Exchange) (u : Unit) (us : List Unit) (rest : List Answer) → x.back ≡ (telling_in u ++ tellings us) ++ rest → Sound x → Sound (record x { back = tellings us ++ rest })
lost_answer x (unit.Fisu head) us rest e h = sound_lost_back x (telling_of head) (tellings us ++ rest) e h
lost_answer x (unit.Msu head sio sif) us rest e h = sound_lost_back x (telling_of head) (tellings us ++ rest) e h
lost_answer x (unit.Lssu head status second) us rest e h = subst (λ (bs : List Answer). Sound (record x { back = bs })) e h

obeyed : (w : Window) (b : Answer) → count_by w b.bsn ≤ w.sent → step w (on_back b.bsn b.bib) ≡ after_back w b.bsn b.bib
obeyed w b few = ap (λ (t : Bool). if t then accepted w (on_back b.bsn b.bib) else w) (le-leb (count_by w b.bsn) w.sent few)

back_to : (x : Exchange) (b : Answer) (bs : List Answer) (w : Window) → x.back ≡ b ∷ bs → Obeys x.sender w b → Sound x → Sound (record x { sender = w; back = bs })
back_to x b bs w e (ignores same) h = subst (λ (v : Window). Sound (record x { sender = v; back = bs })) (sym same) (sound_lost_back x b bs e h)
back_to x b bs w e (is_obeyed same few) h =
    subst (λ (v : Window). Sound (record x { sender = v; back = bs })) (obeyed x.sender b few ∙ sym same) (sound_came_back x b bs e h)

place_left : (was now p T D : ℕ) → now ≤ was → T ≤ D + now → p + T ≡ D + was → (p - (was - now)) + T ≡ D + now
place_left was now p T D less reach e = omega (arith, less, reach, e)

pub some_place : (n : ℕ) (o : Option ℕ) (p : ℕ) → place_behind n o ≡ Some p → (q : ℕ) × (o ≡ Some q) × (p ≡ q - n)
some_place n None p e = absurd (none_some p e)
some_place n (Some q) p e = let same : q - n ≡ p = cc in (q, refl, sym same)

no_more : (gone kept now : List Msu) → kept ≡ gone ++ now → length now ≤ length kept
no_more gone kept now e = omega (arith, length-append gone now, ap (λ (ms : List Msu). length ms) e)

fares_at_near : (x : Ends) (u : Unit) (us : List Unit) → Sound (record (exchange_of x) { sender = (judged x.near u).transceiver.sender; back = tellings us ++ withheld_in x.far.withheld }) → Fares x
    → Fares (came_back u us x)
fares_at_near x u us sound f =
    let h = (judged x.near u).transceiver in
    let loses : Loses (acknowledged_of x.near u) x.near.sender h.sender = keeps_unacknowledged.on_unit x.near u in
    let less : length h.sender.kept ≤ length x.near.sender.kept = no_more (acknowledged_of x.near u) x.near.sender.kept h.sender.kept loses.kept in
    let reach : length x.taken ≤ length x.delivered + length h.sender.kept = sound_sizes (exchange_of (came_back u us x)) sound in
    record {
      sound = sound;
      spare = judged_spare x.near u ∙ f.spare;
      told = f.told;
      place = λ p e.
          let at = some_place (length x.near.sender.kept - length h.sender.kept) x.place p e in
          let was = f.place at.0 at.1 in
          (was.0, ap (λ (n : ℕ). n + length x.taken) at.2 ∙ place_left (length x.near.sender.kept) (length h.sender.kept) at.0 (length x.taken) (length x.delivered) less reach was.1);
    }

fares_came_back : (x : Ends) (u : Unit) (us : List Unit) → x.back ≡ u ∷ us → Fares x → Fares (came_back u us x)
fares_came_back x u us e f =
    let w = (judged x.near u).transceiver.sender in
    let rest : List Answer = withheld_in x.far.withheld in
    let back : tellings x.back ++ rest ≡ (telling_in u ++ tellings us) ++ rest = ap (λ (vs : List Unit). tellings vs ++ rest) e in
    fares_at_near x u us (elim (coming_back x.near u f.spare) [
      | status_back none same ↦
          subst (λ (v : Window). Sound (record (exchange_of x) { sender = v; back = tellings us ++ rest })) (sym same) (lost_answer (exchange_of x) u us rest back f.sound)
      | unit_back b one obeys_it ↦
          back_to (exchange_of x) b (tellings us ++ rest) w (back ∙ ap (λ (bs : List Answer). (bs ++ tellings us) ++ rest) one) obeys_it f.sound
    ]) f

fares_back : (x : Ends) (us : List Unit) → Sound (record (exchange_of x) { back = tellings us ++ withheld_in x.far.withheld }) → Fares x → Fares (record x { back = us })
fares_back x us sound f = record { sound = sound; spare = f.spare; told = f.told; place = f.place }

fares_lost_back : (x : Ends) (u : Unit) (us : List Unit) → x.back ≡ u ∷ us → Fares x → Fares (record x { back = us })
fares_lost_back x u us e f =
    fares_back x us (lost_answer (exchange_of x) u us (withheld_in x.far.withheld) (ap (λ (vs : List Unit). tellings vs ++ withheld_in x.far.withheld) e) f.sound) f

-- ---- acknowledgement is withheld

fares_withholds : (x : Ends) → Fares x → Fares (record x { far = effect (signal.Withhold true) x.far })
unfolding effect
fares_withholds x f = record {
  sound = sound_answered (record (exchange_of x) { back = tellings x.back }) (sound_front (exchange_of x) (tellings x.back) (withheld_in x.far.withheld) refl f.sound);
  spare = f.spare;
  told = f.told;
  place = f.place;
}

fares_acknowledges : (x : Ends) → Fares x → Fares (record x { far = record x.far { withheld = None } })
fares_acknowledges x f = record {
  sound = subst (λ (bs : List Answer). Sound (record (exchange_of x) { back = bs })) (sym (append-nil (tellings x.back)))
      (sound_front (exchange_of x) (tellings x.back) (withheld_in x.far.withheld) refl f.sound);
  spare = f.spare;
  told = f.told;
  place = f.place;
}

-- ---- all other steps

fares_near_else : (x : Ends) (h : TransceiverState) → h.sender ≡ x.near.sender → h.spare ≡ x.near.spare → Fares x → Fares (record x { near = h })
fares_near_else x h same spare f = record {
  sound = subst (λ (w : Window). Sound (record (exchange_of x) { sender = w })) (sym same) f.sound;
  spare = spare ∙ f.spare;
  told = f.told;
  place = λ p e. let was = f.place p e in (was.0, was.1 ∙ ap (λ (w : Window). length x.delivered + length w.kept) (sym same));
}

fares_far_else : (x : Ends) (g : TransceiverState) → g.receiver ≡ x.far.receiver → g.withheld ≡ x.far.withheld → (is_held x.far.hold ≡ true → is_held g.hold ≡ true) → Fares x
    → Fares (record x { far = g })
fares_far_else x g same withheld holds f = record {
  sound = subst (λ (o : Option Backward). Sound (record (exchange_of x) { receiver = g.receiver; back = tellings x.back ++ withheld_in o })) (sym withheld)
      (subst (λ (r : Intake). Sound (record (exchange_of x) { receiver = r })) (sym same) f.sound);
  spare = f.spare;
  told = λ n e. let was = f.told n e in (holds was.0, was.1 ∙ ap (λ (r : Intake). r.last) (sym same));
  place = λ p e. let was = f.place p e in (holds was.0, was.1);
}

-- ---- the number is reported, and heard

fares_tells : (x : Ends) → is_held x.far.hold ≡ true → Fares x → Fares (record x { told = Some x.far.receiver.last })
fares_tells x held f = record { sound = f.sound; spare = f.spare; told = λ n e. let same : x.far.receiver.last ≡ n = cc in (held, sym same); place = f.place }

count_if : (w : Window) (n p : ℕ) (b : Bool) → (if b then Some (count_by w n) else None) ≡ Some p → p ≡ count_by w n
count_if w n p true e = let same : count_by w n ≡ p = cc in sym same
count_if w n p false e = absurd (none_some p e)

heard_place : (w : Window) (o : Option ℕ) (p : ℕ) → count_told w o ≡ Some p → (n : ℕ) × (o ≡ Some n) × (p ≡ count_by w n)
heard_place w None p e = absurd (none_some p e)
heard_place w (Some n) p e = (n, refl, count_if w n p (nat_le (count_by w n) w.sent) e)

place_of : (x : Ends) (n p : ℕ) → Fares x → n ≡ x.far.receiver.last → p ≡ count_by x.near.sender n → p + length x.taken ≡ length x.delivered + length x.near.sender.kept
place_of x n p f last is =
    ap (λ (m : ℕ). m + length x.taken) (is ∙ ap (λ (m : ℕ). count_by x.near.sender m) last) ∙ sound_place (exchange_of x) f.sound

fares_hears : (x : Ends) → Fares x → Fares (record x { place = count_told x.near.sender x.told })
fares_hears x f = record {
  sound = f.sound;
  spare = f.spare;
  told = f.told;
  place = λ p e.
      let at = heard_place x.near.sender x.told p e in
      let was = f.told at.0 at.1 in
      (was.0, place_of x at.0 p f was.1 at.2);
}

-- ---- every list of steps

each_fares : (x : Ends) → Lives x → Fares x
each_fares _ (begins h g) = fares_anew h g
each_fares _ (gets x ms r) = fares_given x ms (each_fares x r)
each_fares _ (near_goes x r) = fares_near_sends x (each_fares x r)
each_fares _ (far_goes x r) = fares_far_sends x (each_fares x r)
each_fares _ (arrives x u us r e) = fares_arrived x u us e (each_fares x r)
each_fares _ (is_lost x u us r e) = fares_lost x u us e (each_fares x r)
each_fares _ (comes_back x u us r e) = fares_came_back x u us e (each_fares x r)
each_fares _ (is_lost_back x u us r e) = fares_lost_back x u us e (each_fares x r)
each_fares _ (withholds x r) = fares_withholds x (each_fares x r)
each_fares _ (acknowledges x r) = fares_acknowledges x (each_fares x r)
each_fares _ (near_else x h r same spare) = fares_near_else x h same spare (each_fares x r)
each_fares _ (far_else x g r same withheld holds) = fares_far_else x g same withheld holds (each_fares x r)
each_fares _ (tells x r held) = fares_tells x held (each_fares x r)
each_fares _ (hears x r) = fares_hears x (each_fares x r)

-- once a number was heard, far is held
pub held_far : (x : Ends) (p : ℕ) → Lives x → x.place ≡ Some p → is_held x.far.hold ≡ true
held_far x p r e = ((each_fares x r).place p e).0

is_known : (x : Ends) (n : ℕ) → Fares x → x.told ≡ Some n → (p : ℕ) × (count_told x.near.sender x.told ≡ Some p)
is_known x n f e =
    let w = x.near.sender in
    let last : n ≡ x.far.receiver.last = (f.told n e).1 in
    let few : count_by w n ≤ w.sent = subst (λ (m : ℕ). count_by w m ≤ w.sent) (sym last) (sound_few (exchange_of x) f.sound) in
    (count_by w n, ap (count_told w) e ∙ ap (λ (b : Bool). if b then Some (count_by w n) else None) (le-leb (count_by w n) w.sent few))

pub ends_complete : EndsComplete
ends_complete = record {
  in_order = λ x r. sound_in_order (exchange_of x) (each_fares x r).sound;
  whole = λ x p r e. let f = each_fares x r in sound_whole (exchange_of x) p f.sound (f.place p e).1;
  known = λ x n r e. is_known x n (each_fares x r) e;
}
