-- The steps of the terminals at both ends of a link belong to a life of it.
use Rattle.std.proofs.Common.{◌≡◌, ℕ, ◌-◌, ◌≤◌, Bool, true, false, List, [], ◌∷◌, ◌++◌, length, Option, Some, None, refl, sym, ap, ◌∙◌, subst, inl, inr, arith, append_assoc}
use Rattle.std.specs.Prelude.{◌⊎◌}
use Rattle.std.proofs.lemmas.List.{append-nil, length-append}
use Rattle.plain_laws.proofs.Truths.{by_test}
use Rattle.resend_store.specs.declared.messages.Msu.{Msu}
use Rattle.bit_line.specs.declared.events.LineEvent.{LineEvent}
use Rattle.su_octets.specs.declared.units.Unit.{Unit}
use Rattle.link_transceiver.specs.declared.signals.EnvSignal.{EnvSignal}
use Rattle.link_transceiver.specs.declared.signals.EnvSignal.TheVariants as signal
use Rattle.link_transceiver.specs.TransceiverState.{TransceiverState}
use Rattle.link_transceiver.specs.Effects.{effect}
use Rattle.link_transceiver.specs.Judging.{judged}
use Rattle.link_transceiver.specs.Laws.{accepted_of, acknowledged_of}
use Rattle.link_transceiver.proofs.Acknowledging.{keeps_unacknowledged}
use Rattle.actor_machine.specs.Ledger.{rebased}
use Rattle.link_processes.specs.declared.processes.Processes.{Processes}
use Rattle.link_processes.specs.Machine.{with_book, is_low, tidied, unit_taken, error_taken, octets_taken, counting_told}
use Rattle.link_processes.proofs.Keeping.{unit_keeps, error_keeps, octets_keep, counting_keeps}
use Rattle.link_term.specs.Hearing.{Reads, as_unit, as_error, AreTaken, nothing, unit, errored, sixteen, Hears, silent, octet}
use Rattle.link_term.specs.Laws.{accepted_read, accepted_taken, accepted_along}
use Rattle.link_group.specs.Ends.{Ends, place_behind, Lives, arrives, is_lost, comes_back, is_lost_back, is_beginning}
use Rattle.link_group.specs.Along.{heeded, units_read, units_taken, units_along, Arrive, none_arrives, one_lost, one_arrives}
use Rattle.link_group.proofs.Heeding.{began_stays, begins_or_stays, fresh_begins, ends_heed}
use Rattle.link_group.proofs.Units.{judged_began, Heeds, left_so, goes_through, heeding}

-- ---- signals other than a restart, at an end

abbrev pub NearOn : TransceiverState → TransceiverState → Type 0
NearOn h g = g.began ≡ false → (h.began ≡ false) × ((x : Ends) → x.near ≡ h → Lives x → Lives (record x { near = g }))

pub near_same : (h : TransceiverState) → NearOn h h
near_same h = λ e. (e, λ x is r. subst (λ (k : TransceiverState). Lives (record x { near = k })) is r)

pub near_joined : (a b c : TransceiverState) → NearOn a b → NearOn b c → NearOn a c
near_joined a b c p q = λ e.
    let last = q e in
    let first = p last.0 in
    (first.0, λ x is r. last.1 (record x { near = b }) refl (first.1 x is r))

fresh_absurd : (s : EnvSignal) (h : TransceiverState) → s ≡ signal.Fresh → (effect s h).began ≡ false → ⊥
fresh_absurd s h is e = let f : true ≡ false = sym (ap (λ (z : EnvSignal). (effect z h).began) is ∙ fresh_begins h) ∙ e in cc

near_by : (s : EnvSignal) (h : TransceiverState) → (s ≡ signal.Fresh) ⊎ (is_beginning s ≡ false) → NearOn h (effect s h)
near_by s h (inl is) = λ e. absurd (fresh_absurd s h is e)
near_by s h (inr other) = λ e. (sym (began_stays s h other) ∙ e, λ x is r. subst (λ (k : TransceiverState). Lives (record x { near = effect s k })) is (ends_heed.near_told x s other r))

pub near_signal : (s : EnvSignal) (h : TransceiverState) → NearOn h (effect s h)
near_signal s h = near_by s h (begins_or_stays s)

abbrev pub FarOn : TransceiverState → TransceiverState → Type 0
FarOn h g = g.began ≡ false → (h.began ≡ false) × ((x : Ends) → x.far ≡ h → Lives x → Lives (record x { far = g }))

pub far_same : (h : TransceiverState) → FarOn h h
far_same h = λ e. (e, λ x is r. subst (λ (k : TransceiverState). Lives (record x { far = k })) is r)

pub far_joined : (a b c : TransceiverState) → FarOn a b → FarOn b c → FarOn a c
far_joined a b c p q = λ e.
    let last = q e in
    let first = p last.0 in
    (first.0, λ x is r. last.1 (record x { far = b }) refl (first.1 x is r))

far_by : (s : EnvSignal) (h : TransceiverState) → (s ≡ signal.Fresh) ⊎ (is_beginning s ≡ false) → FarOn h (effect s h)
far_by s h (inl is) = λ e. absurd (fresh_absurd s h is e)
far_by s h (inr other) = λ e. (sym (began_stays s h other) ∙ e, λ x is r. subst (λ (k : TransceiverState). Lives (record x { far = effect s k })) is (ends_heed.far_told x s other r))

pub far_signal : (s : EnvSignal) (h : TransceiverState) → FarOn h (effect s h)
far_signal s h = far_by s h (begins_or_stays s)

-- a signal leaves the messages held for sending
abbrev SameKept : TransceiverState → TransceiverState → Type 0
SameKept h g = g.sender.kept ≡ h.sender.kept

kept_same : (h : TransceiverState) → SameKept h h
kept_same h = refl

kept_joined : (a b c : TransceiverState) → SameKept a b → SameKept b c → SameKept a c
kept_joined a b c p q = q ∙ p

kept_signal : (s : EnvSignal) (h : TransceiverState) → SameKept h (effect s h)
kept_signal s h = sym (keeps_unacknowledged.on_signal s h).kept

-- ---- room in a journal

pub tidied_same : (t : Processes) → (tidied t).transceiver ≡ t.transceiver
unfolding tidied
tidied_same t = by_test (λ (u : Processes). u.transceiver ≡ t.transceiver) (is_low t) (with_book t (rebased t.book)) t (λ e. refl) (λ e. refl)

-- ---- no restart after octets means none before

pub read_began : (octets : List ℕ) (t u : Processes) → Reads octets t u → u.transceiver.began ≡ false → t.transceiver.began ≡ false
read_began _ _ _ (as_unit octets x t frame) e = sym (judged_began t.transceiver x) ∙ (unit_keeps NearOn near_same near_joined near_signal x t e).0
read_began _ _ _ (as_error octets t none) e = (error_keeps NearOn near_same near_joined near_signal t e).0

pub taken_began : (events : List LineEvent) (t v : Processes) → AreTaken events t v → v.transceiver.began ≡ false → t.transceiver.began ≡ false
taken_began _ _ _ (nothing t) e = e
taken_began _ _ _ (unit octets left t u v read taken) e =
    (counting_keeps NearOn near_same near_joined near_signal false t (read_began octets (counting_told false t) u read (taken_began left u v taken e))).0
taken_began _ _ _ (errored left t v taken) e = (error_keeps NearOn near_same near_joined near_signal t (taken_began left (error_taken t) v taken e)).0
taken_began _ _ _ (sixteen left t v taken) e = (octets_keep NearOn near_same near_joined near_signal t (taken_began left (octets_taken t) v taken e)).0

pub along_began : (bits : List Bool) (all now : List LineEvent) (t v : Processes) (octets : List ℕ) → Hears bits all t octets now v → v.transceiver.began ≡ false → t.transceiver.began ≡ false
along_began _ _ _ _ _ _ (silent bits all t) e = e
along_began _ _ _ _ _ _ (octet bits all given t u v first octets now on room are taken counts hears) e =
    ap (λ (h : TransceiverState). h.began) (sym (tidied_same t))
    ∙ taken_began given (tidied t) u taken
    (counting_keeps NearOn near_same near_joined near_signal on u (along_began _ _ now (counting_told on u) v octets hears e)).0

-- ---- units under way

arrive_split_by : (vs more us ws all : List Unit) → Arrive all us ws → all ≡ vs ++ more → (mid : List Unit) × Arrive vs us mid × Arrive more mid ws
arrive_split_by [] more us ws all a e = (us, none_arrives refl, subst (λ (xs : List Unit). Arrive xs us ws) e a)
arrive_split_by (v ∷ vs) more us ws _ (none_arrives same) e = absurd (cc)
arrive_split_by (v ∷ vs) more _ ws all (one_lost {us = rest} a) e =
    let s = arrive_split_by (v ∷ vs) more rest ws all a e in (s.0, one_lost s.1, s.2)
arrive_split_by (v ∷ vs) more _ ws _ (one_arrives {u = w} {us = rest} {vs = left} same a) e =
    let first : w ≡ v = cc in
    let next : left ≡ vs ++ more = cc in
    let s = arrive_split_by vs more rest ws left a next in (s.0, one_arrives (sym first ∙ same) s.1, s.2)

arrive_split : (vs more us ws : List Unit) → Arrive (vs ++ more) us ws → (mid : List Unit) × Arrive vs us mid × Arrive more mid ws
arrive_split vs more us ws a = arrive_split_by vs more us ws (vs ++ more) a refl

pub lose_back : (x : Ends) (us ws : List Unit) → x.back ≡ us → Arrive [] us ws → Lives x → Lives (record x { back = ws })
lose_back x us ws e (none_arrives same) r = subst (λ (bs : List Unit). Lives (record x { back = bs })) (e ∙ same) r
lose_back x us ws e (one_lost {u = u} {us = rest} a) r = lose_back (record x { back = rest }) rest ws refl a (is_lost_back x u rest r e)

pub lose_forth : (x : Ends) (us ws : List Unit) → x.forth ≡ us → Arrive [] us ws → Lives x → Lives (record x { forth = ws })
lose_forth x us ws e (none_arrives same) r = subst (λ (fs : List Unit). Lives (record x { forth = fs })) (e ∙ same) r
lose_forth x us ws e (one_lost {u = u} {us = rest} a) r = lose_forth (record x { forth = rest }) rest ws refl a (is_lost x u rest r e)

-- ---- near receives octets

abbrev pub near_at : Ends → TransceiverState → List Unit → Ends
near_at x v rest = record x { near = v; back = rest; place = place_behind (length x.near.sender.kept - length v.sender.kept) x.place }

pub record NearTo (x : Ends) (v : TransceiverState) (rest : List Unit) : Type 0 where
  pub less : length v.sender.kept ≤ length x.near.sender.kept
  pub lives : Lives (near_at x v rest)

behind_none : (n m : ℕ) (o : Option ℕ) → n ≡ m → place_behind (n - m) o ≡ o
behind_none n m None e = refl
behind_none n m (Some p) e = let same : p - (n - m) ≡ p = omega (arith, e) in ap (λ (q : ℕ). Some q) same

behind_twice : (a b c : ℕ) (o : Option ℕ) → b ≤ a → c ≤ b → place_behind (b - c) (place_behind (a - b) o) ≡ place_behind (a - c) o
behind_twice a b c None first second = refl
behind_twice a b c (Some p) first second = let same : (p - (a - b)) - (b - c) ≡ p - (a - c) = omega (arith, first, second) in ap (λ (q : ℕ). Some q) same

near_further : (x : Ends) (u v : TransceiverState) (mid rest : List Unit) → NearTo x u mid → NearTo (near_at x u mid) v rest → NearTo x v rest
near_further x u v mid rest first second =
    let less : length v.sender.kept ≤ length x.near.sender.kept = omega (arith, first.less, second.less) in
    record {
      less = less;
      lives = subst (λ (p : Option ℕ). Lives (record x { near = v; back = rest; place = p }))
          (behind_twice (length x.near.sender.kept) (length u.sender.kept) (length v.sender.kept) x.place first.less second.less) second.lives;
    }

near_signals : (x : Ends) (h g : TransceiverState) → x.near ≡ h → NearOn h g → SameKept h g → g.began ≡ false → Lives x → NearTo x g x.back
near_signals x h g is on kept e r =
    let same : length x.near.sender.kept ≡ length g.sender.kept = ap (λ (k : TransceiverState). length k.sender.kept) is ∙ ap (λ (ms : List Msu). length ms) (sym kept) in
    record {
      less = omega (arith, same);
      lives = subst (λ (p : Option ℕ). Lives (record x { near = g; place = p })) (sym (behind_none (length x.near.sender.kept) (length g.sender.kept) x.place same)) ((on e).1 x is r);
    }

-- near does nothing
near_waits : (x : Ends) (h : TransceiverState) (rest : List Unit) → x.near ≡ h → Arrive [] x.back rest → Lives x → NearTo x h rest
near_waits x h rest is a r =
    let same : length x.near.sender.kept ≡ length h.sender.kept = ap (λ (k : TransceiverState). length k.sender.kept) is in
    record {
      less = omega (arith, same);
      lives = subst (λ (p : Option ℕ). Lives (record x { near = h; back = rest; place = p })) (sym (behind_none (length x.near.sender.kept) (length h.sender.kept) x.place same))
          (subst (λ (k : TransceiverState). Lives (record x { near = k; back = rest })) is (lose_back x x.back rest refl a r));
    }

fewer_kept : (gone kept now : List Msu) → kept ≡ gone ++ now → length now ≤ length kept
fewer_kept gone kept now e = omega (arith, length-append gone now, ap (λ (ms : List Msu). length ms) e)

near_judged : (x : Ends) (u : Unit) (us : List Unit) → x.back ≡ u ∷ us → Lives x → NearTo x (judged x.near u).transceiver us
near_judged x u us e r = record {
  less = fewer_kept (acknowledged_of x.near u) x.near.sender.kept (judged x.near u).transceiver.sender.kept (keeps_unacknowledged.on_unit x.near u).kept;
  lives = comes_back x u us r e;
}

near_judged_unit : (x : Ends) (u : Unit) (t : Processes) (us ws : List Unit) → x.back ≡ u ∷ us → Arrive [] us ws → x.near ≡ t.transceiver → (unit_taken u t).transceiver.began ≡ false → Lives x
    → NearTo x (unit_taken u t).transceiver ws
near_judged_unit x u t us ws e a is began r =
    let h = (judged x.near u).transceiver in
    let came : NearTo x h us = near_judged x u us e r in
    let y : Ends = near_at x h us in
    let told : NearTo y (unit_taken u t).transceiver us =
    near_signals y (judged t.transceiver u).transceiver (unit_taken u t).transceiver (ap (λ (k : TransceiverState). (judged k u).transceiver) is)
    (unit_keeps NearOn near_same near_joined near_signal u t) (unit_keeps SameKept kept_same kept_joined kept_signal u t) began came.lives in
    let z : Ends = near_at y (unit_taken u t).transceiver us in
    near_further x h (unit_taken u t).transceiver us ws came
    (near_further y (unit_taken u t).transceiver (unit_taken u t).transceiver us ws told (near_waits z (unit_taken u t).transceiver ws refl a told.lives))

near_unit : (x : Ends) (u : Unit) (t : Processes) (vs us ws : List Unit) → vs ≡ u ∷ [] → x.back ≡ us → Arrive vs us ws → x.near ≡ t.transceiver → (unit_taken u t).transceiver.began ≡ false
    → Lives x → NearTo x (unit_taken u t).transceiver ws
near_unit x u t _ us ws one e (none_arrives same) is began r = absurd (cc)
near_unit x u t vs _ ws one e (one_lost {u = w} {us = rest} a) is began r =
    let other = near_unit (record x { back = rest }) u t vs rest ws one refl a is began (is_lost_back x w rest r e) in
    record { less = other.less; lives = other.lives }
near_unit x u t _ _ ws one e (one_arrives {u = w} {us = rest} {vs = left} same a) is began r =
    let first : w ≡ u = cc in
    let none : left ≡ [] = cc in
    near_judged_unit x u t rest ws (e ∙ ap (λ (v : Unit). v ∷ rest) (sym same ∙ first)) (subst (λ (xs : List Unit). Arrive xs rest ws) none a) is began r

near_aside : (x : Ends) (u : Unit) (t : Processes) (ws : List Unit) → x.near ≡ t.transceiver → (judged t.transceiver u).transceiver ≡ t.transceiver → Arrive [] x.back ws
    → (unit_taken u t).transceiver.began ≡ false → Lives x → NearTo x (unit_taken u t).transceiver ws
near_aside x u t ws is same a began r =
    let v : TransceiverState = (unit_taken u t).transceiver in
    let one : NearTo x v x.back =
    near_signals x (judged t.transceiver u).transceiver v (is ∙ sym same) (unit_keeps NearOn near_same near_joined near_signal u t) (unit_keeps SameKept kept_same kept_joined kept_signal u t) began r in
    near_further x v v x.back ws one (near_waits (near_at x v x.back) v ws refl a one.lives)

near_heeded : (x : Ends) (u : Unit) (t : Processes) (ws : List Unit) → x.near ≡ t.transceiver → (unit_taken u t).transceiver.began ≡ false → Arrive (heeded t.transceiver u) x.back ws → Lives x
    → Heeds t.transceiver u → NearTo x (unit_taken u t).transceiver ws
near_heeded x u t ws is began a r (left_so none same nothing_more) = near_aside x u t ws is same (subst (λ (vs : List Unit). Arrive vs x.back ws) none a) began r
near_heeded x u t ws is began a r (goes_through one) = near_unit x u t (heeded t.transceiver u) x.back ws one refl a is began r

near_read : (octets : List ℕ) (t u : Processes) (read : Reads octets t u) (x : Ends) (ws : List Unit) → x.near ≡ t.transceiver → u.transceiver.began ≡ false
    → Arrive (units_read read) x.back ws → Lives x → NearTo x u.transceiver ws
near_read _ _ _ (as_unit octets v t frame) x ws is began a r = near_heeded x v t ws is began a r (heeding t.transceiver v)
near_read _ _ _ (as_error octets t none) x ws is began a r =
    let one : NearTo x (error_taken t).transceiver x.back =
    near_signals x t.transceiver (error_taken t).transceiver is (error_keeps NearOn near_same near_joined near_signal t) (error_keeps SameKept kept_same kept_joined kept_signal t) began r in
    near_further x (error_taken t).transceiver (error_taken t).transceiver x.back ws one
    (near_waits (near_at x (error_taken t).transceiver x.back) (error_taken t).transceiver ws refl a one.lives)

near_taken : (events : List LineEvent) (t v : Processes) (taken : AreTaken events t v) (x : Ends) (ws : List Unit) → x.near ≡ t.transceiver → v.transceiver.began ≡ false
    → Arrive (units_taken taken) x.back ws → Lives x → NearTo x v.transceiver ws
near_taken _ _ _ (nothing t) x ws is began a r = near_waits x t.transceiver ws is a r
near_taken _ _ _ (unit octets left t u v read taken) x ws is began a r =
    let w : Processes = counting_told false t in
    let behind : u.transceiver.began ≡ false = taken_began left u v taken began in
    let s = arrive_split (units_read read) (units_taken taken) x.back ws a in
    let one : NearTo x w.transceiver x.back =
    near_signals x t.transceiver w.transceiver is (counting_keeps NearOn near_same near_joined near_signal false t) (counting_keeps SameKept kept_same kept_joined kept_signal false t)
    (read_began octets w u read behind) r in
    let y : Ends = near_at x w.transceiver x.back in
    let two : NearTo y u.transceiver s.0 = near_read octets w u read y s.0 refl behind s.1 one.lives in
    let z : Ends = near_at y u.transceiver s.0 in
    near_further x w.transceiver v.transceiver x.back ws one
    (near_further y u.transceiver v.transceiver s.0 ws two (near_taken left u v taken z ws refl began s.2 two.lives))
near_taken _ _ _ (errored left t v taken) x ws is began a r =
    let one : NearTo x (error_taken t).transceiver x.back =
    near_signals x t.transceiver (error_taken t).transceiver is (error_keeps NearOn near_same near_joined near_signal t) (error_keeps SameKept kept_same kept_joined kept_signal t)
    (taken_began left (error_taken t) v taken began) r in
    near_further x (error_taken t).transceiver v.transceiver x.back ws one
    (near_taken left (error_taken t) v taken (near_at x (error_taken t).transceiver x.back) ws refl began a one.lives)
near_taken _ _ _ (sixteen left t v taken) x ws is began a r =
    let one : NearTo x (octets_taken t).transceiver x.back =
    near_signals x t.transceiver (octets_taken t).transceiver is (octets_keep NearOn near_same near_joined near_signal t) (octets_keep SameKept kept_same kept_joined kept_signal t)
    (taken_began left (octets_taken t) v taken began) r in
    near_further x (octets_taken t).transceiver v.transceiver x.back ws one
    (near_taken left (octets_taken t) v taken (near_at x (octets_taken t).transceiver x.back) ws refl began a one.lives)

pub near_along : (bits : List Bool) (all now : List LineEvent) (t v : Processes) (octets : List ℕ) (h : Hears bits all t octets now v) (x : Ends) (ws : List Unit) → x.near ≡ t.transceiver
    → v.transceiver.began ≡ false → Arrive (units_along h) x.back ws → Lives x → NearTo x v.transceiver ws
near_along _ _ _ _ _ _ (silent bits all t) x ws is began a r = near_waits x t.transceiver ws is a r
near_along _ _ _ _ _ _ (octet bits all given t u v first octets now on room are taken counts hears) x ws is began a r =
    let w : Processes = counting_told on u in
    let behind : w.transceiver.began ≡ false = along_began _ _ now w v octets hears began in
    let s = arrive_split (units_taken taken) (units_along hears) x.back ws a in
    let before : u.transceiver.began ≡ false = (counting_keeps NearOn near_same near_joined near_signal on u behind).0 in
    let one : NearTo x u.transceiver s.0 = near_taken given (tidied t) u taken x s.0 (is ∙ sym (tidied_same t)) before s.1 r in
    let y : Ends = near_at x u.transceiver s.0 in
    let two : NearTo y w.transceiver s.0 =
    near_signals y u.transceiver w.transceiver refl (counting_keeps NearOn near_same near_joined near_signal on u) (counting_keeps SameKept kept_same kept_joined kept_signal on u) behind one.lives in
    let z : Ends = near_at y w.transceiver s.0 in
    near_further x u.transceiver v.transceiver s.0 ws one
    (near_further y w.transceiver v.transceiver s.0 ws two (near_along _ _ now w v octets hears z ws refl began s.2 two.lives))

-- ---- far receives octets

abbrev pub far_at : Ends → TransceiverState → List Unit → List Msu → Ends
far_at x v rest ms = record x { far = v; forth = rest; delivered = x.delivered ++ ms }

pub far_further : (x : Ends) (u v : TransceiverState) (mid rest : List Unit) (ms ns : List Msu) → Lives (far_at (far_at x u mid ms) v rest ns) → Lives (far_at x v rest (ms ++ ns))
far_further x u v mid rest ms ns r = subst (λ (xs : List Msu). Lives (record x { far = v; forth = rest; delivered = xs })) (append_assoc x.delivered ms ns) r

pub far_signals : (x : Ends) (h g : TransceiverState) → x.far ≡ h → FarOn h g → g.began ≡ false → Lives x → Lives (far_at x g x.forth [])
far_signals x h g is on e r = subst (λ (xs : List Msu). Lives (record x { far = g; delivered = xs })) (sym (append-nil x.delivered)) ((on e).1 x is r)

far_waits : (x : Ends) (h : TransceiverState) (rest : List Unit) → x.far ≡ h → Arrive [] x.forth rest → Lives x → Lives (far_at x h rest [])
far_waits x h rest is a r =
    subst (λ (xs : List Msu). Lives (record x { far = h; forth = rest; delivered = xs })) (sym (append-nil x.delivered))
    (subst (λ (k : TransceiverState). Lives (record x { far = k; forth = rest })) is (lose_forth x x.forth rest refl a r))

far_judged_unit : (x : Ends) (u : Unit) (t : Processes) (us ws : List Unit) → x.forth ≡ u ∷ us → Arrive [] us ws → x.far ≡ t.transceiver → (unit_taken u t).transceiver.began ≡ false → Lives x
    → Lives (far_at x (unit_taken u t).transceiver ws (accepted_of t.transceiver u))
far_judged_unit x u t us ws e a is began r =
    let ms : List Msu = accepted_of t.transceiver u in
    let came : Lives (far_at x (judged t.transceiver u).transceiver us ms) =
    subst (λ (k : TransceiverState). Lives (far_at x (judged k u).transceiver us (accepted_of k u))) is (arrives x u us r e) in
    let y : Ends = far_at x (judged t.transceiver u).transceiver us ms in
    let told : Lives (record y { far = (unit_taken u t).transceiver }) = (unit_keeps FarOn far_same far_joined far_signal u t began).1 y refl came in
    lose_forth (record y { far = (unit_taken u t).transceiver }) us ws refl a told

far_unit : (x : Ends) (u : Unit) (t : Processes) (vs us ws : List Unit) → vs ≡ u ∷ [] → x.forth ≡ us → Arrive vs us ws → x.far ≡ t.transceiver → (unit_taken u t).transceiver.began ≡ false
    → Lives x → Lives (far_at x (unit_taken u t).transceiver ws (accepted_of t.transceiver u))
far_unit x u t _ us ws one e (none_arrives same) is began r = absurd (cc)
far_unit x u t vs _ ws one e (one_lost {u = w} {us = rest} a) is began r = far_unit (record x { forth = rest }) u t vs rest ws one refl a is began (is_lost x w rest r e)
far_unit x u t _ _ ws one e (one_arrives {u = w} {us = rest} {vs = left} same a) is began r =
    let first : w ≡ u = cc in
    let none : left ≡ [] = cc in
    far_judged_unit x u t rest ws (e ∙ ap (λ (v : Unit). v ∷ rest) (sym same ∙ first)) (subst (λ (xs : List Unit). Arrive xs rest ws) none a) is began r

far_aside : (x : Ends) (u : Unit) (t : Processes) (ws : List Unit) → x.far ≡ t.transceiver → (judged t.transceiver u).transceiver ≡ t.transceiver → accepted_of t.transceiver u ≡ []
    → Arrive [] x.forth ws → (unit_taken u t).transceiver.began ≡ false → Lives x → Lives (far_at x (unit_taken u t).transceiver ws (accepted_of t.transceiver u))
far_aside x u t ws is same none a began r =
    let v : TransceiverState = (unit_taken u t).transceiver in
    let one : Lives (far_at x v x.forth []) = far_signals x (judged t.transceiver u).transceiver v (is ∙ sym same) (unit_keeps FarOn far_same far_joined far_signal u t) began r in
    subst (λ (ms : List Msu). Lives (far_at x v ws ms)) (sym none) (far_further x v v x.forth ws [] [] (far_waits (far_at x v x.forth []) v ws refl a one))

far_heeded : (x : Ends) (u : Unit) (t : Processes) (ws : List Unit) → x.far ≡ t.transceiver → (unit_taken u t).transceiver.began ≡ false → Arrive (heeded t.transceiver u) x.forth ws → Lives x
    → Heeds t.transceiver u → Lives (far_at x (unit_taken u t).transceiver ws (accepted_of t.transceiver u))
far_heeded x u t ws is began a r (left_so none same accepts) = far_aside x u t ws is same accepts (subst (λ (vs : List Unit). Arrive vs x.forth ws) none a) began r
far_heeded x u t ws is began a r (goes_through one) = far_unit x u t (heeded t.transceiver u) x.forth ws one refl a is began r

far_read : (octets : List ℕ) (t u : Processes) (read : Reads octets t u) (x : Ends) (ws : List Unit) → x.far ≡ t.transceiver → u.transceiver.began ≡ false
    → Arrive (units_read read) x.forth ws → Lives x → Lives (far_at x u.transceiver ws (accepted_read read))
far_read _ _ _ (as_unit octets v t frame) x ws is began a r = far_heeded x v t ws is began a r (heeding t.transceiver v)
far_read _ _ _ (as_error octets t none) x ws is began a r =
    far_further x (error_taken t).transceiver (error_taken t).transceiver x.forth ws [] []
    (far_waits (far_at x (error_taken t).transceiver x.forth []) (error_taken t).transceiver ws refl a
    (far_signals x t.transceiver (error_taken t).transceiver is (error_keeps FarOn far_same far_joined far_signal t) began r))

far_taken : (events : List LineEvent) (t v : Processes) (taken : AreTaken events t v) (x : Ends) (ws : List Unit) → x.far ≡ t.transceiver → v.transceiver.began ≡ false
    → Arrive (units_taken taken) x.forth ws → Lives x → Lives (far_at x v.transceiver ws (accepted_taken taken))
far_taken _ _ _ (nothing t) x ws is began a r = far_waits x t.transceiver ws is a r
far_taken _ _ _ (unit octets left t u v read taken) x ws is began a r =
    let w : Processes = counting_told false t in
    let behind : u.transceiver.began ≡ false = taken_began left u v taken began in
    let s = arrive_split (units_read read) (units_taken taken) x.forth ws a in
    let y : Ends = far_at x w.transceiver x.forth [] in
    let one : Lives y = far_signals x t.transceiver w.transceiver is (counting_keeps FarOn far_same far_joined far_signal false t) (read_began octets w u read behind) r in
    let z : Ends = far_at y u.transceiver s.0 (accepted_read read) in
    let two : Lives z = far_read octets w u read y s.0 refl behind s.1 one in
    far_further x w.transceiver v.transceiver x.forth ws [] (accepted_read read ++ accepted_taken taken)
    (far_further y u.transceiver v.transceiver s.0 ws (accepted_read read) (accepted_taken taken) (far_taken left u v taken z ws refl began s.2 two))
far_taken _ _ _ (errored left t v taken) x ws is began a r =
    let y : Ends = far_at x (error_taken t).transceiver x.forth [] in
    let one : Lives y =
    far_signals x t.transceiver (error_taken t).transceiver is (error_keeps FarOn far_same far_joined far_signal t) (taken_began left (error_taken t) v taken began) r in
    far_further x (error_taken t).transceiver v.transceiver x.forth ws [] (accepted_taken taken) (far_taken left (error_taken t) v taken y ws refl began a one)
far_taken _ _ _ (sixteen left t v taken) x ws is began a r =
    let y : Ends = far_at x (octets_taken t).transceiver x.forth [] in
    let one : Lives y =
    far_signals x t.transceiver (octets_taken t).transceiver is (octets_keep FarOn far_same far_joined far_signal t) (taken_began left (octets_taken t) v taken began) r in
    far_further x (octets_taken t).transceiver v.transceiver x.forth ws [] (accepted_taken taken) (far_taken left (octets_taken t) v taken y ws refl began a one)

pub far_along : (bits : List Bool) (all now : List LineEvent) (t v : Processes) (octets : List ℕ) (h : Hears bits all t octets now v) (x : Ends) (ws : List Unit) → x.far ≡ t.transceiver
    → v.transceiver.began ≡ false → Arrive (units_along h) x.forth ws → Lives x → Lives (far_at x v.transceiver ws (accepted_along h))
far_along _ _ _ _ _ _ (silent bits all t) x ws is began a r = far_waits x t.transceiver ws is a r
far_along _ _ _ _ _ _ (octet bits all given t u v first octets now on room are taken counts hears) x ws is began a r =
    let w : Processes = counting_told on u in
    let behind : w.transceiver.began ≡ false = along_began _ _ now w v octets hears began in
    let s = arrive_split (units_taken taken) (units_along hears) x.forth ws a in
    let before : u.transceiver.began ≡ false = (counting_keeps NearOn near_same near_joined near_signal on u behind).0 in
    let y : Ends = far_at x u.transceiver s.0 (accepted_taken taken) in
    let one : Lives y = far_taken given (tidied t) u taken x s.0 (is ∙ sym (tidied_same t)) before s.1 r in
    let z : Ends = far_at y w.transceiver s.0 [] in
    let two : Lives z = far_signals y u.transceiver w.transceiver refl (counting_keeps FarOn far_same far_joined far_signal on u) behind one in
    far_further x u.transceiver v.transceiver s.0 ws (accepted_taken taken) (accepted_along hears)
    (far_further y w.transceiver v.transceiver s.0 ws [] (accepted_along hears) (far_along _ _ now w v octets hears z ws refl began s.2 two))
