-- Lines that keep their order, and ends that align: each end hears only units of the matching life.
use Rattle.std.proofs.Common.{◌≡◌, ℕ, Bool, true, false, List, [], ◌∷◌, ◌++◌, refl, sym, ◌∙◌, subst, inl, inr}
use Rattle.std.specs.Prelude.{◌⊎◌, ◌&&◌, ◌||◌, All}
use Rattle.std.proofs.lemmas.List.Elements.{All-nil, All-cons, All-head, All-tail, All-append}
use Rattle.su_octets.specs.declared.units.Unit.{Unit}
use Rattle.link_group.specs.Meeting.{UnderWay, sent_so, through_stores, Pass, none_passes, one_lost, one_passes, Meeting, OfLife, near_met, far_met, IsQuiet, Aligned, AlignmentMatches}
use Rattle.link_group.specs.Meeting.{Runs, is_earlier, near_earlier, far_earlier, near_begins, far_begins, near_does, far_does, far_empties, near_passes, far_passes, Matches}

-- ---- the units under way, and those heard

abbrev IsAnew : UnderWay → Type 0
IsAnew s = s.anew ≡ true

abbrev IsEarlier : UnderWay → Type 0
IsEarlier s = s.anew ≡ false

-- In this life only LSSUs were sent.
abbrev IsAside : UnderWay → Type 0
IsAside s = s.anew ≡ true → through_stores s.unit ≡ false

pass_rest : (P : UnderWay → Type 0) (vs us ws : List UnderWay) → Pass vs us ws → All P us → All P ws
pass_rest P _ us ws (none_passes same) all = subst (All P) same all
pass_rest P vs _ ws (one_lost {s = s} {us = us} p) all = pass_rest P vs us ws p (All-tail P s us all)
pass_rest P _ _ ws (one_passes {s = s} {t = t} {us = us} {vs = vs} same p) all = pass_rest P vs us ws p (All-tail P t us all)

pass_heard : (P : UnderWay → Type 0) (vs us ws : List UnderWay) → Pass vs us ws → All P us → All P vs
pass_heard P _ us ws (none_passes same) all = All-nil P
pass_heard P vs _ ws (one_lost {s = s} {us = us} p) all = pass_heard P vs us ws p (All-tail P s us all)
pass_heard P _ _ ws (one_passes {s = s} {t = t} {us = us} {vs = vs} same p) all =
    All-cons P s vs (subst P (sym same) (All-head P t us all)) (pass_heard P vs us ws p (All-tail P t us all))

-- ---- a line keeps its order: units of earlier lives, then those of this life

data InOrder : List UnderWay → Type 0 where
  later : {us : List UnderWay} → All IsAnew us → InOrder us
  sooner : {s : UnderWay} {us : List UnderWay} → s.anew ≡ false → InOrder us → InOrder (s ∷ us)

no_both : (b : Bool) → b ≡ true → b ≡ false → ⊥
no_both b e f = let g : true ≡ false = sym e ∙ f in cc

order_tail : (s : UnderWay) (us : List UnderWay) → InOrder (s ∷ us) → InOrder us
order_tail s us (later all) = later (All-tail IsAnew s us all)
order_tail s us (sooner none o) = o

order_head : (s : UnderWay) (us : List UnderWay) → InOrder (s ∷ us) → s.anew ≡ true → All IsAnew us
order_head s us (later all) e = All-tail IsAnew s us all
order_head s us (sooner none o) e = absurd (no_both s.anew e none)

order_behind : (lost rest : List UnderWay) (s : UnderWay) → InOrder (lost ++ s ∷ rest) → s.anew ≡ true → All IsAnew rest
order_behind [] rest s o e = order_head s rest o e
order_behind (t ∷ lost) rest s o e = order_behind lost rest s (order_tail t (lost ++ s ∷ rest) o) e

order_rest : (vs us ws : List UnderWay) → Pass vs us ws → InOrder us → InOrder ws
order_rest _ us ws (none_passes same) o = subst InOrder same o
order_rest vs _ ws (one_lost {s = s} {us = us} p) o = order_rest vs us ws p (order_tail s us o)
order_rest _ _ ws (one_passes {s = s} {t = t} {us = us} {vs = vs} same p) o = order_rest vs us ws p (order_tail t us o)

order_more : (us vs : List UnderWay) → InOrder us → All IsAnew vs → InOrder (us ++ vs)
order_more us vs (later all) more = later (All-append IsAnew us vs all more)
order_more _ vs (sooner {s = s} {us = us} none o) more = sooner none (order_more us vs o more)

order_earlier : (us : List UnderWay) → All IsEarlier us → InOrder us
order_earlier [] all = later (All-nil IsAnew)
order_earlier (s ∷ us) all = sooner (All-head IsEarlier s us all) (order_earlier us (All-tail IsEarlier s us all))

-- ---- sent units

sent_all : (b : Bool) (us : List Unit) → All (λ s. s.anew ≡ b) (sent_so b us)
sent_all b [] = All-nil (λ (s : UnderWay). s.anew ≡ b)
sent_all b (u ∷ us) = All-cons (λ (s : UnderWay). s.anew ≡ b) (record { unit = u; anew = b }) (sent_so b us) refl (sent_all b us)

sent_quiet : (us : List Unit) → All (λ u. through_stores u ≡ false) us → All IsAside (sent_so true us)
sent_quiet [] all = All-nil IsAside
sent_quiet (u ∷ us) all =
    All-cons IsAside (record { unit = u; anew = true }) (sent_so true us) (λ e. All-head (λ (v : Unit). through_stores v ≡ false) u us all)
    (sent_quiet us (All-tail (λ (v : Unit). through_stores v ≡ false) u us all))

sent_aside : (us : List Unit) → All IsAside (sent_so false us)
sent_aside [] = All-nil IsAside
sent_aside (u ∷ us) = All-cons IsAside (record { unit = u; anew = false }) (sent_so false us) (λ e. absurd (no_both false e refl)) (sent_aside us)

-- ---- one line, from the end that sends to the one that hears

record Line (hears_met sends_met hears sends : Bool) (us : List UnderWay) : Type 0 where
  met : hears_met ≡ true → (hears ≡ true) × (sends ≡ true) × All IsAnew us
  quiet : sends_met ≡ false → All IsAside us
  earlier : sends ≡ false → All IsEarlier us
  order : InOrder us

line_first : (us : List Unit) → Line false false false false (sent_so false us)
line_first us = record {
  met = λ e. absurd (no_both false e refl);
  quiet = λ e. sent_aside us;
  earlier = λ e. sent_all false us;
  order = order_earlier (sent_so false us) (sent_all false us);
}

module _ (hm sm h s : Bool) (us : List UnderWay) (line : Line hm sm h s us) where
  line_rest : (vs ws : List UnderWay) → Pass vs us ws → Line hm sm h s ws
  line_rest vs ws p = record {
    met = λ e. let was = line.met e in (was.0, was.1, pass_rest IsAnew vs us ws p was.2);
    quiet = λ e. pass_rest IsAside vs us ws p (line.quiet e);
    earlier = λ e. pass_rest IsEarlier vs us ws p (line.earlier e);
    order = order_rest vs us ws p line.order;
  }

  line_waits : (out : List Unit) → s ≡ false → Line hm sm h s (us ++ sent_so false out)
  line_waits out none = record {
    met = λ e. absurd (no_both s (line.met e).1 none);
    quiet = λ e. All-append IsAside us (sent_so false out) (line.quiet e) (sent_aside out);
    earlier = λ e. All-append IsEarlier us (sent_so false out) (line.earlier e) (sent_all false out);
    order = order_earlier (us ++ sent_so false out) (All-append IsEarlier us (sent_so false out) (line.earlier none) (sent_all false out));
  }

  quiet_by : (out : List Unit) → (sm ≡ true) ⊎ All (λ u. through_stores u ≡ false) out → sm ≡ false → All IsAside (us ++ sent_so true out)
  quiet_by out (inl so) not_so = absurd (no_both sm so not_so)
  quiet_by out (inr all) not_so = All-append IsAside us (sent_so true out) (line.quiet not_so) (sent_quiet out all)

  line_sends : (out : List Unit) → s ≡ true → (sm ≡ true) ⊎ All (λ u. through_stores u ≡ false) out → Line hm sm h s (us ++ sent_so true out)
  line_sends out began may = record {
    met = λ e. let was = line.met e in (was.0, was.1, All-append IsAnew us (sent_so true out) was.2 (sent_all true out));
    quiet = quiet_by out may;
    earlier = λ e. absurd (no_both s began e);
    order = order_more us (sent_so true out) line.order (sent_all true out);
  }

  sender_begins : Line hm sm h true us
  sender_begins = record { met = λ e. let was = line.met e in (was.0, refl, was.2); quiet = line.quiet; earlier = λ e. absurd (no_both true refl e); order = line.order }

  hearer_begins : Line hm sm true s us
  hearer_begins = record { met = λ e. let was = line.met e in (refl, was.1, was.2); quiet = line.quiet; earlier = line.earlier; order = line.order }

  sender_meets : (b : Bool) → Line hm (sm || b) h s us
  sender_meets b = record { met = line.met; quiet = λ e. line.quiet (none_either sm b e); earlier = line.earlier; order = line.order }
    where
      none_either : (x y : Bool) → (x || y) ≡ false → x ≡ false
      none_either true y e = e
      none_either false y e = refl

-- ---- an end meets the other one

lost_first : (lost rest : List UnderWay) (s : UnderWay) → Pass [] (lost ++ s ∷ rest) rest
lost_first [] rest s = one_lost (none_passes refl)
lost_first (t ∷ lost) rest s = one_lost (lost_first lost rest s)

one_anew : (lost rest : List UnderWay) (s : UnderWay) → All IsEarlier (lost ++ s ∷ rest) → s.anew ≡ false
one_anew [] rest s all = All-head IsEarlier s rest all
one_anew (t ∷ lost) rest s all = one_anew lost rest s (All-tail IsEarlier t (lost ++ s ∷ rest) all)

meets_by : (hm sm h s : Bool) (us lost rest : List UnderWay) (one : UnderWay) → us ≡ lost ++ one ∷ rest → Line hm sm h s us → (b : Bool) → one.anew ≡ b → (hm || h && b) ≡ true
    → (h ≡ true) × (s ≡ true) × All IsAnew rest
meets_by true sm h s us lost rest one is line b anew e =
    let was = line.met refl in (was.0, was.1, pass_rest IsAnew [] us rest (subst (λ (vs : List UnderWay). Pass [] vs rest) (sym is) (lost_first lost rest one)) was.2)
meets_by false sm true s us lost rest one is line true anew e =
    (refl, began s refl, order_behind lost rest one (subst InOrder is line.order) anew)
  where
    began : (c : Bool) → c ≡ s → s ≡ true
    began true f = sym f
    began false f = absurd (no_both one.anew anew (one_anew lost rest one (subst (All IsEarlier) is (line.earlier (sym f)))))
meets_by false sm true s us lost rest one is line false anew e = absurd (no_both false e refl)
meets_by false sm false s us lost rest one is line b anew e = absurd (no_both false e refl)

hearer_meets : (hm sm h s : Bool) (us lost rest : List UnderWay) (one : UnderWay) → us ≡ lost ++ one ∷ rest → Line hm sm h s us → Line (hm || h && one.anew) sm h s rest
hearer_meets hm sm h s us lost rest one is line =
    let p : Pass [] us rest = subst (λ (vs : List UnderWay). Pass [] vs rest) (sym is) (lost_first lost rest one) in
    record {
      met = λ e. meets_by hm sm h s us lost rest one is line one.anew refl e;
      quiet = λ e. pass_rest IsAside [] us rest p (line.quiet e);
      earlier = λ e. pass_rest IsEarlier [] us rest p (line.earlier e);
      order = order_rest [] us rest p line.order;
    }

-- ---- both lines of a run

aside_earlier : (vs : List UnderWay) → All IsAside vs → All (λ s. through_stores s.unit ≡ true) vs → OfLife false vs
aside_earlier [] aside may = All-nil IsEarlier
aside_earlier (s ∷ vs) aside may =
    All-cons IsEarlier s vs (by s.anew refl) (aside_earlier vs (All-tail IsAside s vs aside) (All-tail (λ (z : UnderWay). through_stores z.unit ≡ true) s vs may))
  where
    by : (b : Bool) → s.anew ≡ b → s.anew ≡ false
    by true e = absurd (no_both (through_stores s.unit) (All-head (λ (z : UnderWay). through_stores z.unit ≡ true) s vs may) (All-head IsAside s vs aside e))
    by false e = e

-- An end whose life didn't begin hears no unit of this life.
none_early : (hm sm h s : Bool) (us vs heard rest : List UnderWay) → Line hm sm h s us → Line sm hm s h vs → h ≡ false → Pass heard us rest → All (λ z. through_stores z.unit ≡ true) heard
    → OfLife false heard
none_early hm true h s us vs heard rest line other none p may = absurd (no_both h (other.met refl).1 none)
none_early hm false h s us vs heard rest line other none p may = aside_earlier heard (pass_heard IsAside heard us rest p (line.quiet refl)) may

-- One in this life hears only units of this life.
all_anew : (hm sm h s : Bool) (us heard rest : List UnderWay) (out : List Unit) → Line hm sm h s us → Pass heard us rest → (hm ≡ true) ⊎ IsQuiet heard out → OfLife true heard
all_anew hm sm h s us heard rest out line p (inl met) = pass_heard IsAnew heard us rest p (line.met met).2
all_anew hm sm h s us heard rest out line p (inr quiet) = subst (OfLife true) (sym quiet.0) (All-nil IsAnew)

may_send : (m : Bool) (heard : List UnderWay) (out : List Unit) → (m ≡ true) ⊎ IsQuiet heard out → (m ≡ true) ⊎ All (λ u. through_stores u ≡ false) out
may_send m heard out (inl so) = inl so
may_send m heard out (inr quiet) = inr quiet.1

record Kept (l : ℕ) (x : Meeting) (r : Runs l x) : Type 0 where
  matches : Matches r
  back : Line (near_met r) (far_met r) x.near_began x.far_began x.back
  forth : Line (far_met r) (near_met r) x.far_began x.near_began x.forth

each_kept : (l : ℕ) (x : Meeting) (r : Runs l x) → Aligned r → Kept l x r
each_kept l _ (is_earlier c d forth back) a = record { matches = tt; back = line_first back; forth = line_first forth }
each_kept l _ (near_earlier x e out heard rest r none may p) a =
    let k : Kept l x r = each_kept l x r a in
    record {
      matches = (k.matches, none_early (near_met r) (far_met r) x.near_began x.far_began x.back x.forth heard rest k.back k.forth none p may);
      back = line_rest (near_met r) (far_met r) x.near_began x.far_began x.back k.back heard rest p;
      forth = line_waits (far_met r) (near_met r) x.far_began x.near_began x.forth k.forth out none;
    }
each_kept l _ (far_earlier x e out heard rest r none may p) a =
    let k : Kept l x r = each_kept l x r a in
    record {
      matches = (k.matches, none_early (far_met r) (near_met r) x.far_began x.near_began x.forth x.back heard rest k.forth k.back none p may);
      back = line_waits (near_met r) (far_met r) x.near_began x.far_began x.back k.back out none;
      forth = line_rest (far_met r) (near_met r) x.far_began x.near_began x.forth k.forth heard rest p;
    }
each_kept l _ (near_begins x h r none is anew counts) a =
    let k : Kept l x r = each_kept l x r a in
    record {
      matches = k.matches;
      back = hearer_begins (near_met r) (far_met r) x.near_began x.far_began x.back k.back;
      forth = sender_begins (far_met r) (near_met r) x.far_began x.near_began x.forth k.forth;
    }
each_kept l _ (far_begins x g r none is anew) a =
    let k : Kept l x r = each_kept l x r a in
    record {
      matches = k.matches;
      back = sender_begins (near_met r) (far_met r) x.near_began x.far_began x.back k.back;
      forth = hearer_begins (far_met r) (near_met r) x.far_began x.near_began x.forth k.forth;
    }
each_kept l _ (near_does x e deed heard rest r began call came p is) a =
    let k : Kept l x r = each_kept l x r a.0 in
    record {
      matches = (k.matches, all_anew (near_met r) (far_met r) x.near_began x.far_began x.back heard rest deed.out k.back p a.1);
      back = line_rest (near_met r) (far_met r) x.near_began x.far_began x.back k.back heard rest p;
      forth = line_sends (far_met r) (near_met r) x.far_began x.near_began x.forth k.forth deed.out began (may_send (near_met r) heard deed.out a.1);
    }
each_kept l _ (far_does x e deed heard rest r began call came p) a =
    let k : Kept l x r = each_kept l x r a.0 in
    record {
      matches = (k.matches, all_anew (far_met r) (near_met r) x.far_began x.near_began x.forth heard rest deed.out k.forth p a.1);
      back = line_sends (near_met r) (far_met r) x.near_began x.far_began x.back k.back deed.out began (may_send (far_met r) heard deed.out a.1);
      forth = line_rest (far_met r) (near_met r) x.far_began x.near_began x.forth k.forth heard rest p;
    }
each_kept l _ (far_empties x e r began call) a =
    let k : Kept l x r = each_kept l x r a in
    record { matches = k.matches; back = k.back; forth = k.forth }
each_kept l _ (near_passes x s lost rest r is) a =
    let k : Kept l x r = each_kept l x r a in
    record {
      matches = k.matches;
      back = hearer_meets (near_met r) (far_met r) x.near_began x.far_began x.back lost rest s is k.back;
      forth = sender_meets (far_met r) (near_met r) x.far_began x.near_began x.forth k.forth (x.near_began && s.anew);
    }
each_kept l _ (far_passes x s lost rest r is) a =
    let k : Kept l x r = each_kept l x r a in
    record {
      matches = k.matches;
      back = sender_meets (near_met r) (far_met r) x.near_began x.far_began x.back k.back (x.far_began && s.anew);
      forth = hearer_meets (far_met r) (near_met r) x.far_began x.near_began x.forth lost rest s is k.forth;
    }

pub alignment_matches : AlignmentMatches
alignment_matches = record { matches = λ l x r a. (each_kept l x r a).matches }
