-- Lives of a link whose ends begin at different moments: whichever sets and ends begin theirs later, the two are in one life.
use Rattle.std.proofs.Common.{◌≡◌, ℕ, Bool, true, false, List, [], ◌∷◌, ◌++◌, map, Option, Some, None, refl, sym, ap, ◌∙◌, subst}
use Rattle.std.specs.Prelude.{◌⊎◌, slice_get}
use Rattle.std.proofs.lemmas.List.{append-nil}
use Rattle.std.proofs.lemmas.List.Elements.{All-nil, All-head, All-tail}
use Rattle.plain_laws.proofs.Options.{none_some}
use Rattle.resend_store.specs.declared.messages.Msu.{Msu}
use Rattle.su_octets.specs.declared.units.Unit.{Unit}
use Rattle.link_transceiver.specs.TransceiverState.{TransceiverState}
use Rattle.group_changeover.specs.declared.changeover.Changeover.{Changeover}
use Rattle.group_changeover.specs.Bound.{unbound}
use Rattle.group_changeover.specs.Saying.{number_in, begun_by_message}
use Rattle.link_group.specs.declared.link.Link.{Link}
use Rattle.link_group.specs.Set.{LinkSet}
use Rattle.link_group.specs.Changing.{is_for, after_message, after_retrieve}
use Rattle.link_group.specs.Laws.{hand_at}
use Rattle.link_group.specs.Along.{Arrive, none_arrives, one_lost as lost_one, one_arrives}
use Rattle.link_group.specs.Joined.{end_at, Deed, Does, Empties, Joined, SendsAnew, AcceptsAnew, counted_of, counted_at, takes_number, IsTold, told_behind, Goes}
use Rattle.link_group.specs.Meeting.{UnderWay, sent_so, Pass, none_passes, one_lost, one_passes, Meeting, OfLife}
use Rattle.link_group.specs.Meeting.{Runs, is_earlier, near_earlier, far_earlier, near_begins, far_begins, near_does, far_does, far_empties, near_passes, far_passes, Matches}
use Rattle.link_group.proofs.Along.{lose_back, lose_forth}
use Rattle.link_group.proofs.Deaf.{deaf, none_left}
use Rattle.link_group.proofs.Joined.{ends_of, Inside, inside_anew, inside_near, inside_far, inside_emptied, whole, in_order, number_counts}

-- ---- the units under way of this life

abbrev if_anew : Bool → Unit → List Unit → List Unit
if_anew true u us = u ∷ us
if_anew false u us = us

abbrev this : List UnderWay → List Unit
this [] = []
this (s ∷ us) = if_anew s.anew s.unit (this us)

if_append : (b : Bool) (u : Unit) (us vs : List Unit) → if_anew b u (us ++ vs) ≡ if_anew b u us ++ vs
if_append true u us vs = refl
if_append false u us vs = refl

this_append : (us vs : List UnderWay) → this (us ++ vs) ≡ this us ++ this vs
this_append [] vs = refl
this_append (s ∷ us) vs = ap (if_anew s.anew s.unit) (this_append us vs) ∙ if_append s.anew s.unit (this us) (this vs)

this_sent : (us : List Unit) → this (sent_so true us) ≡ us
this_sent [] = refl
this_sent (u ∷ us) = ap (λ (vs : List Unit). u ∷ vs) (this_sent us)

this_earlier : (us : List Unit) → this (sent_so false us) ≡ []
this_earlier [] = refl
this_earlier (u ∷ us) = this_earlier us

more_sent : (us : List UnderWay) (out : List Unit) → this (us ++ sent_so true out) ≡ this us ++ out
more_sent us out = this_append us (sent_so true out) ∙ ap (λ (vs : List Unit). this us ++ vs) (this_sent out)

none_sent : (us : List UnderWay) (out : List Unit) → this (us ++ sent_so false out) ≡ this us
none_sent us out = this_append us (sent_so false out) ∙ (ap (λ (vs : List Unit). this us ++ vs) (this_earlier out) ∙ append-nil (this us))

-- ---- what passes

one_goes : (b : Bool) (u : Unit) (vs us ws : List Unit) → Arrive vs us ws → Arrive vs (if_anew b u us) ws
one_goes true u vs us ws a = lost_one a
one_goes false u vs us ws a = a

arrive_this : (vs us ws : List UnderWay) → Pass vs us ws → OfLife true vs → Arrive (map (λ s. s.unit) vs) (this us) (this ws)
arrive_this _ us ws (none_passes same) of = none_arrives (ap this same)
arrive_this vs _ ws (one_lost {s = s} {us = us} p) of = one_goes s.anew s.unit (map (λ t. t.unit) vs) (this us) (this ws) (arrive_this vs us ws p of)
arrive_this _ _ ws (one_passes {s = s} {t = t} {us = us} {vs = vs} same p) of =
    let anew : t.anew ≡ true = ap (λ (z : UnderWay). z.anew) (sym same) ∙ All-head (λ (z : UnderWay). z.anew ≡ true) s vs of in
    subst (λ (b : Bool). Arrive (s.unit ∷ map (λ z. z.unit) vs) (if_anew b t.unit (this us)) (this ws)) (sym anew)
    (one_arrives (ap (λ (z : UnderWay). z.unit) same) (arrive_this vs us ws p (All-tail (λ (z : UnderWay). z.anew ≡ true) s vs of)))

arrive_none : (vs us ws : List UnderWay) → Pass vs us ws → OfLife false vs → Arrive [] (this us) (this ws)
arrive_none _ us ws (none_passes same) of = none_arrives (ap this same)
arrive_none vs _ ws (one_lost {s = s} {us = us} p) of = one_goes s.anew s.unit [] (this us) (this ws) (arrive_none vs us ws p of)
arrive_none _ _ ws (one_passes {s = s} {t = t} {us = us} {vs = vs} same p) of =
    let anew : t.anew ≡ false = ap (λ (z : UnderWay). z.anew) (sym same) ∙ All-head (λ (z : UnderWay). z.anew ≡ false) s vs of in
    subst (λ (b : Bool). Arrive [] (if_anew b t.unit (this us)) (this ws)) (sym anew) (arrive_none vs us ws p (All-tail (λ (z : UnderWay). z.anew ≡ false) s vs of))

lost_first : (lost rest : List UnderWay) (s : UnderWay) → Pass [] (lost ++ s ∷ rest) rest
lost_first [] rest s = one_lost (none_passes refl)
lost_first (t ∷ lost) rest s = one_lost (lost_first lost rest s)

arrive_apart : (us lost rest : List UnderWay) (s : UnderWay) → us ≡ lost ++ s ∷ rest → Arrive [] (this us) (this rest)
arrive_apart us lost rest s is =
    subst (λ (vs : List UnderWay). Arrive [] (this vs) (this rest)) (sym is) (arrive_none [] (lost ++ s ∷ rest) rest (lost_first lost rest s) (All-nil (λ (z : UnderWay). z.anew ≡ false)))

-- ---- whichever set and end begin later

record NearAnew (l : ℕ) (c : LinkSet) (taken : List Msu) : Type 0 where
  end : TransceiverState
  is : end_at c l ≡ Some end
  anew : SendsAnew end
  none : counted_at c l ≡ None
  all : taken ≡ end.sender.kept

record FarAnew (l : ℕ) (d : LinkSet) : Type 0 where
  end : TransceiverState
  is : end_at d l ≡ Some end
  anew : AcceptsAnew end

-- the near set and what its link was given, if this life began there; else any that begin it
data NearIs (l : ℕ) (x : Meeting) (c : LinkSet) (taken : List Msu) : Type 0 where
  near_now : x.near_began ≡ true → x.near ≡ c → x.taken ≡ taken → NearIs l x c taken
  near_later : x.near_began ≡ false → NearAnew l c taken → NearIs l x c taken

data FarIs (l : ℕ) (x : Meeting) (d : LinkSet) : Type 0 where
  far_now : x.far_began ≡ true → x.far ≡ d → FarIs l x d
  far_later : x.far_began ≡ false → FarAnew l d → FarIs l x d

abbrev life_of : Meeting → LinkSet → LinkSet → List Msu → Joined
life_of x c d taken = record { near = c; far = d; forth = this x.forth; back = this x.back; taken = taken; delivered = x.delivered; told = x.told }

record Alive (l : ℕ) (x : Meeting) : Type 0 where
  inside : (c d : LinkSet) (taken : List Msu) → NearIs l x c taken → FarIs l x d → Inside l (life_of x c d taken)
  ungiven : x.near_began ≡ false → (this x.forth ≡ []) × (x.taken ≡ []) × (x.delivered ≡ [])
  unheard : x.far_began ≡ false → (x.delivered ≡ []) × (x.told ≡ None)

no_both : (b : Bool) → b ≡ true → b ≡ false → ⊥
no_both b e f = let g : true ≡ false = sym e ∙ f in cc

-- ---- the parts of a life

inside_as : (l : ℕ) (x : Joined) (forth back : List Unit) → x.forth ≡ forth → x.back ≡ back → Inside l x → Inside l (record x { forth = forth; back = back })
inside_as l x forth back goes comes i =
    subst (λ (us : List Unit). Inside l (record x { forth = us; back = back })) goes (subst (λ (us : List Unit). Inside l (record x { back = us })) comes i)

loses_back : (l : ℕ) (x : Joined) (rest : List Unit) → Arrive [] x.back rest → Inside l x → Inside l (record x { back = rest })
loses_back l x rest a i = record {
  near = i.near;
  far = i.far;
  place = i.place;
  between = record { life = lose_back (ends_of x i.near i.far i.place) x.back rest refl a i.between.life; near = i.between.near; far = i.between.far };
  counts = i.counts;
}

loses_forth : (l : ℕ) (x : Joined) (rest : List Unit) → Arrive [] x.forth rest → Inside l x → Inside l (record x { forth = rest })
loses_forth l x rest a i = record {
  near = i.near;
  far = i.far;
  place = i.place;
  between = record { life = lose_forth (ends_of x i.near i.far i.place) x.forth rest refl a i.between.life; near = i.between.near; far = i.between.far };
  counts = i.counts;
}

-- ---- before any life

earlier_ends : (l : ℕ) (c d e f : LinkSet) (taken : List Msu) (forth back : List Unit) → NearAnew l e taken → FarAnew l f
    → Inside l (record { near = e; far = f; forth = this (sent_so false forth); back = this (sent_so false back); taken = taken; delivered = []; told = None })
earlier_ends l c d e f taken forth back h g =
    inside_as l (record { near = e; far = f; forth = []; back = []; taken = taken; delivered = []; told = None }) (this (sent_so false forth)) (this (sent_so false back)) (sym (this_earlier forth))
    (sym (this_earlier back))
    (subst (λ (ms : List Msu). Inside l (record { near = e; far = f; forth = []; back = []; taken = ms; delivered = []; told = None })) (sym h.all)
    (inside_anew l e f h.end g.end h.is g.is h.anew g.anew h.none))

abbrev pub before : LinkSet → LinkSet → List Unit → List Unit → Meeting
before c d forth back = record {
  near = c;
  far = d;
  near_began = false;
  far_began = false;
  forth = sent_so false forth;
  back = sent_so false back;
  taken = [];
  delivered = [];
  told = None;
}

earlier_inside : (l : ℕ) (c d : LinkSet) (forth back : List Unit) (e f : LinkSet) (taken : List Msu) → NearIs l (before c d forth back) e taken → FarIs l (before c d forth back) f
    → Inside l (life_of (before c d forth back) e f taken)
earlier_inside l c d forth back e f taken (near_later not_so h) (far_later not g) = earlier_ends l c d e f taken forth back h g
earlier_inside l c d forth back e f taken (near_now so is all) v = absurd (no_both false so refl)
earlier_inside l c d forth back e f taken u (far_now so is) = absurd (no_both false so refl)

-- ---- each step

near_waits : (l : ℕ) (x : Meeting) (e : LinkSet) (out : List Unit) (rest : List UnderWay) → x.near_began ≡ false → Arrive [] (this x.back) (this rest) → Alive l x
    → Alive l (record x { near = e; forth = x.forth ++ sent_so false out; back = rest })
near_waits l x e out rest none a w = record {
  inside = λ c d taken near far.
      let n : NearIs l x c taken = elim near [
        | near_now so is all ↦ absurd (no_both x.near_began so none)
        | near_later not_so h ↦ near_later not_so h
      ] in
      let f : FarIs l x d = elim far [ far_now so is ↦ far_now so is | far_later not_so g ↦ far_later not_so g ] in
      inside_as l (record (life_of x c d taken) { back = this rest }) (this (x.forth ++ sent_so false out)) (this rest) (sym (none_sent x.forth out)) refl
      (loses_back l (life_of x c d taken) (this rest) a (w.inside c d taken n f));
  ungiven = λ not_so. let was = w.ungiven not_so in (none_sent x.forth out ∙ was.0, was.1, was.2);
  unheard = w.unheard;
}

far_waits : (l : ℕ) (x : Meeting) (e : LinkSet) (out : List Unit) (rest : List UnderWay) → x.far_began ≡ false → Arrive [] (this x.forth) (this rest) → Alive l x
    → Alive l (record x { far = e; forth = rest; back = x.back ++ sent_so false out })
far_waits l x e out rest none a w = record {
  inside = λ c d taken near far.
      let n : NearIs l x c taken = elim near [ near_now so is all ↦ near_now so is all | near_later not_so h ↦ near_later not_so h ] in
      let f : FarIs l x d = elim far [ far_now so is ↦ absurd (no_both x.far_began so none) | far_later not_so g ↦ far_later not_so g ] in
      inside_as l (record (life_of x c d taken) { forth = this rest }) (this rest) (this (x.back ++ sent_so false out)) refl (sym (none_sent x.back out))
      (loses_forth l (life_of x c d taken) (this rest) a (w.inside c d taken n f));
  ungiven = λ not_so. let was = w.ungiven not_so in ((none_left [] (this x.forth) (this rest) a was.0).1, was.1, was.2);
  unheard = w.unheard;
}

near_starts : (l : ℕ) (x : Meeting) (h : TransceiverState) → x.near_began ≡ false → end_at x.near l ≡ Some h → SendsAnew h → counted_at x.near l ≡ None → Alive l x
    → Alive l (record x { near_began = true; taken = h.sender.kept })
near_starts l x h none is anew counts w = record {
  inside = λ c d taken near far.
      let n : NearIs l x c taken = elim near [
        | near_now so same all ↦
            near_later none (record { end = h; is = ap (λ (z : LinkSet). end_at z l) (sym same) ∙ is; anew = anew; none = ap (λ (z : LinkSet). counted_at z l) (sym same) ∙ counts; all = sym all })
        | near_later not_so k ↦ absurd (no_both true refl not_so)
      ] in
      let f : FarIs l x d = elim far [ far_now so same ↦ far_now so same | far_later not_so g ↦ far_later not_so g ] in
      w.inside c d taken n f;
  ungiven = λ not_so. absurd (no_both true refl not_so);
  unheard = w.unheard;
}

far_starts : (l : ℕ) (x : Meeting) (g : TransceiverState) → x.far_began ≡ false → end_at x.far l ≡ Some g → AcceptsAnew g → Alive l x → Alive l (record x { far_began = true })
far_starts l x g none is anew w = record {
  inside = λ c d taken near far.
      let n : NearIs l x c taken = elim near [ near_now so same all ↦ near_now so same all | near_later not_so h ↦ near_later not_so h ] in
      let f : FarIs l x d = elim far [
        | far_now so same ↦ far_later none (record { end = g; is = ap (λ (z : LinkSet). end_at z l) (sym same) ∙ is; anew = anew })
        | far_later not_so k ↦ absurd (no_both true refl not_so)
      ] in
      w.inside c d taken n f;
  ungiven = w.ungiven;
  unheard = λ not_so. absurd (no_both true refl not_so);
}

near_calls : (l : ℕ) (x : Meeting) (e : LinkSet) (deed : Deed) (rest : List UnderWay) → x.near_began ≡ true → Does l x.near e deed → Arrive deed.came (this x.back) (this rest)
    → IsTold deed.heard x.told ⊎ (counted_at e l ≡ counted_at x.near l) → Alive l x
    → Alive l (record x { near = e; forth = x.forth ++ sent_so true deed.out; back = rest; taken = x.taken ++ deed.given })
near_calls l x e deed rest began call a is w = record {
  inside = λ c d taken near far. elim near [
    | near_later not_so h ↦ absurd (no_both x.near_began began not_so)
    | near_now so same all ↦
        let f : FarIs l x d = elim far [ far_now fy fs ↦ far_now fy fs | far_later not_so g ↦ far_later not_so g ] in
        let old : Inside l (life_of x x.near d x.taken) = w.inside x.near d x.taken (near_now began refl refl) f in
        let i = inside_near l (life_of x x.near d x.taken) e deed (this rest) old call a is in
        let y : Joined = record (life_of x e d (x.taken ++ deed.given)) { forth = this (x.forth ++ sent_so true deed.out); back = this rest } in
        let j : Inside l y =
        inside_as l (record (life_of x e d (x.taken ++ deed.given)) { forth = this x.forth ++ deed.out; back = this rest }) (this (x.forth ++ sent_so true deed.out)) (this rest)
        (sym (more_sent x.forth deed.out)) refl i in
        subst (λ (z : LinkSet). Inside l (record y { near = z; taken = taken })) same (subst (λ (ms : List Msu). Inside l (record y { taken = ms })) all j)
  ];
  ungiven = λ not_so. absurd (no_both x.near_began began not_so);
  unheard = w.unheard;
}

far_calls : (l : ℕ) (x : Meeting) (e : LinkSet) (deed : Deed) (rest : List UnderWay) → x.far_began ≡ true → Does l x.far e deed → Arrive deed.came (this x.forth) (this rest) → Alive l x
    → Alive l (record x { far = e; forth = rest; back = x.back ++ sent_so true deed.out; delivered = x.delivered ++ deed.accepted; told = told_behind deed.told x.told })
far_calls l x e deed rest began call a w = record {
  inside = λ c d taken near far. elim far [
    | far_later not_so g ↦ absurd (no_both x.far_began began not_so)
    | far_now so same ↦
        let n : NearIs l x c taken = elim near [ near_now ny ns all ↦ near_now ny ns all | near_later not_so h ↦ near_later not_so h ] in
        let old : Inside l (life_of x c x.far taken) = w.inside c x.far taken n (far_now began refl) in
        let i = inside_far l (life_of x c x.far taken) e deed (this rest) old call a in
        let y : Joined =
        record (life_of x c e taken) { forth = this rest; back = this (x.back ++ sent_so true deed.out); delivered = x.delivered ++ deed.accepted; told = told_behind deed.told x.told } in
        let j : Inside l y =
        inside_as l (record y { back = this x.back ++ deed.out }) (this rest) (this (x.back ++ sent_so true deed.out)) refl (sym (more_sent x.back deed.out)) i in
        subst (λ (z : LinkSet). Inside l (record y { far = z })) same j
  ];
  ungiven = λ not_so.
      let was = w.ungiven not_so in
      let none = none_left deed.came (this x.forth) (this rest) a was.0 in
      (none.1, was.1, ap (λ (ms : List Msu). ms ++ deed.accepted) was.2 ∙ deaf l x.far e deed call none.0);
  unheard = λ not_so. absurd (no_both x.far_began began not_so);
}

far_clears : (l : ℕ) (x : Meeting) (e : LinkSet) → x.far_began ≡ true → Empties l x.far e → Alive l x → Alive l (record x { far = e })
far_clears l x e began call w = record {
  inside = λ c d taken near far. elim far [
    | far_later not_so g ↦ absurd (no_both x.far_began began not_so)
    | far_now so same ↦
        let n : NearIs l x c taken = elim near [ near_now ny ns all ↦ near_now ny ns all | near_later not_so h ↦ near_later not_so h ] in
        let i = inside_emptied l (life_of x c x.far taken) e (w.inside c x.far taken n (far_now began refl)) call in
        subst (λ (z : LinkSet). Inside l (life_of x c z taken)) same i
  ];
  ungiven = w.ungiven;
  unheard = w.unheard;
}

back_goes : (l : ℕ) (x : Meeting) (rest : List UnderWay) → Arrive [] (this x.back) (this rest) → Alive l x → Alive l (record x { back = rest })
back_goes l x rest a w = record {
  inside = λ c d taken near far.
      let n : NearIs l x c taken = elim near [ near_now so is all ↦ near_now so is all | near_later not_so h ↦ near_later not_so h ] in
      let f : FarIs l x d = elim far [ far_now so is ↦ far_now so is | far_later not_so g ↦ far_later not_so g ] in
      loses_back l (life_of x c d taken) (this rest) a (w.inside c d taken n f);
  ungiven = w.ungiven;
  unheard = w.unheard;
}

forth_goes : (l : ℕ) (x : Meeting) (rest : List UnderWay) → Arrive [] (this x.forth) (this rest) → Alive l x → Alive l (record x { forth = rest })
forth_goes l x rest a w = record {
  inside = λ c d taken near far.
      let n : NearIs l x c taken = elim near [ near_now so is all ↦ near_now so is all | near_later not_so h ↦ near_later not_so h ] in
      let f : FarIs l x d = elim far [ far_now so is ↦ far_now so is | far_later not_so g ↦ far_later not_so g ] in
      loses_forth l (life_of x c d taken) (this rest) a (w.inside c d taken n f);
  ungiven = λ not_so. let was = w.ungiven not_so in ((none_left [] (this x.forth) (this rest) a was.0).1, was.1, was.2);
  unheard = w.unheard;
}

-- ---- every run

heard_so : (vs us ws : List UnderWay) (came : List Unit) → map (λ s. s.unit) vs ≡ came → Pass vs us ws → OfLife true vs → Arrive came (this us) (this ws)
heard_so vs us ws came is p of = subst (λ (xs : List Unit). Arrive xs (this us) (this ws)) is (arrive_this vs us ws p of)

each_alive : (l : ℕ) (x : Meeting) (r : Runs l x) → Matches r → Alive l x
each_alive l _ (is_earlier c d forth back) m = record { inside = earlier_inside l c d forth back; ungiven = λ not_so. (this_earlier forth, refl, refl); unheard = λ not_so. (refl, refl) }
each_alive l _ (near_earlier x e out heard rest r none may p) m = near_waits l x e out rest none (arrive_none heard x.back rest p m.1) (each_alive l x r m.0)
each_alive l _ (far_earlier x e out heard rest r none may p) m = far_waits l x e out rest none (arrive_none heard x.forth rest p m.1) (each_alive l x r m.0)
each_alive l _ (near_begins x h r none is anew counts) m = near_starts l x h none is anew counts (each_alive l x r m)
each_alive l _ (far_begins x g r none is anew) m = far_starts l x g none is anew (each_alive l x r m)
each_alive l _ (near_does x e deed heard rest r began call came p is) m =
    near_calls l x e deed rest began call (heard_so heard x.back rest deed.came came p m.1) is (each_alive l x r m.0)
each_alive l _ (far_does x e deed heard rest r began call came p) m = far_calls l x e deed rest began call (heard_so heard x.forth rest deed.came came p m.1) (each_alive l x r m.0)
each_alive l _ (far_empties x e r began call) m = far_clears l x e began call (each_alive l x r m)
each_alive l _ (near_passes x s lost rest r is) m = back_goes l x rest (arrive_apart x.back lost rest s is) (each_alive l x r m)
each_alive l _ (far_passes x s lost rest r is) m = forth_goes l x rest (arrive_apart x.forth lost rest s is) (each_alive l x r m)

inside_both : (l : ℕ) (x : Meeting) (r : Runs l x) → Matches r → x.near_began ≡ true → x.far_began ≡ true → Inside l (life_of x x.near x.far x.taken)
inside_both l x r m near far = (each_alive l x r m).inside x.near x.far x.taken (near_now near refl refl) (far_now far refl)

pub meet_whole : (l : ℕ) (x : Meeting) (k : Link) (p : ℕ) (e : LinkSet) (later : List Msu) (r : Runs l x) → Matches r → x.near_began ≡ true → x.far_began ≡ true
    → slice_get x.near.links l ≡ Some k → counted_of (Some k) ≡ Some p → Goes l x.far e later
    → unbound k.points x.taken ≡ unbound k.points (x.delivered ++ later) ++ hand_at (after_retrieve x.near l) l
meet_whole l x k p e later r m near far there counts goes = whole l (life_of x x.near x.far x.taken) k p e later (inside_both l x r m near far) there counts goes

pub in_order_by : (l : ℕ) (x : Meeting) (r : Runs l x) → Matches r → (a b : Bool) → x.near_began ≡ a → x.far_began ≡ b → (missing : List Msu) × (x.taken ≡ x.delivered ++ missing)
in_order_by l x r m true true near far = in_order l (life_of x x.near x.far x.taken) (inside_both l x r m near far)
in_order_by l x r m true false near far = (x.taken, ap (λ (ms : List Msu). ms ++ x.taken) (sym ((each_alive l x r m).unheard far).0))
in_order_by l x r m false b near far =
    let none = (each_alive l x r m).ungiven near in ([], none.1 ∙ sym (ap (λ (ms : List Msu). ms ++ []) none.2))

told_began : (b : Bool) (o : Option ℕ) (n : ℕ) → o ≡ Some n → (b ≡ false → o ≡ None) → b ≡ true
told_began true o n e none = refl
told_began false o n e none = absurd (none_some (sym (none refl) ∙ e))

pub meet_counts : (l : ℕ) (x : Meeting) (m : Changeover) (k : Link) (n : ℕ) (r : Runs l x) → Matches r → x.near_began ≡ true → x.told ≡ Some n → slice_get x.near.links l ≡ Some k
    → takes_number (begun_by_message m.kind k.availability).changing ≡ true → k.availability.anew ≡ false → is_for x.near m ≡ true → m.label.sls ≡ l → number_in m.kind ≡ Some n
    → (p : ℕ) × (counted_at (after_message x.near (Some m)) l ≡ Some p)
meet_counts l x m k n r matches near told there counts anew ours label number =
    let far : x.far_began ≡ true = told_began x.far_began x.told n told (λ not_so. ((each_alive l x r matches).unheard not_so).1) in
    number_counts l (life_of x x.near x.far x.taken) m k n (inside_both l x r matches near far) told there counts anew ours label number
