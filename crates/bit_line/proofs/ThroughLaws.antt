-- A deframer in normal mode reports the units that a stuffer put on the line.
use Rattle.std.proofs.Common.{◌≡◌, ℕ, ◌+◌, ◌-◌, ◌<◌, ◌≤◌, zero, suc, Bool, true, false, cond, Some, None, List, [], ◌∷◌, ◌++◌, length, reverse, take, drop, refl, sym, ap, ◌∙◌, arith, inl, inr, subst, append_assoc}
use Rattle.std.specs.Prelude.{◌⊎◌, ◌≢◌, nat_lt}
use Rattle.std.specs.Bool.{MatchBool}
use Rattle.std.specs.Option.{option_map}
use Rattle.std.proofs.lemmas.Bool.{le-ltb, false_from_ne_true as isnt_true}
use Rattle.std.proofs.lemmas.List.{append-nil, reverse-append, reverse-reverse, length-reverse, length-append}
use Rattle.std.proofs.Math.Seq.{take-append_seam, take-append-add}
use Rattle.su_octets.specs.Bits.{bits_of, AreOctets}
use Rattle.bit_line.specs.Stuffing.{trailing, stuffed, taken_out}
use Rattle.bit_line.specs.Flags.{six_ones, ends_flag, since_flag, inside, begins, MOST_BITS}
use Rattle.bit_line.specs.Sending.{flag, framed, line_of}
use Rattle.bit_line.specs.Events.{AreUnit, IsJudged, Verdict, Correct, Nothing, Runs, AreEvents, mode_after, reports}
use Rattle.bit_line.specs.Deframing.{has_six}
use Rattle.bit_line.specs.Laws.{unit_events, without_last, arrived, AreUnits}
use Rattle.bit_line.specs.declared.events.LineEvent.{LineEvent}
use Rattle.bit_line.specs.declared.events.LineEvent.TheVariants as events
use Rattle.bit_line.proofs.StuffLaws.{IsStuffing, is_stuffing, no_six-parts, trailing-none, taken_out-one, taken_out-five, taken_out-other, five_or_other}
use Rattle.bit_line.proofs.ContentLaws.{unit_fits}
use Rattle.bit_line.proofs.EventLaws.{one_run}
use Rattle.bit_line.proofs.SendLaws.{framed-append, framed-one}
use Rattle.bit_line.proofs.FlagLaws.{since_flag-flag, since_flag-other, ends_flag-plain, ends_flag-zero, begins-plain, begins-flag}
use Rattle.su_octets.proofs.BitLists.{length-bits_of}
use Rattle.bit_line.proofs.GateLaws.{inside-some as inside-is}

-- ---- bits that end no flag and begin no counting mode
pub quiet : (b : Bool) (h : List Bool) (es : List LineEvent) → Runs h None es → ends_flag (b ∷ h) ≡ false → begins (b ∷ h) ≡ false → Runs (b ∷ h) None es
unfolding Runs mode_after reports
quiet b h es runs none calm =
    let P : Bool → Type 0 = λ e. MatchBool e (IsJudged (inside h) Nothing) (Nothing ≡ Nothing) in (
      None,
      es,
      runs,
      record {
        verdict = Nothing;
        closes = subst P (sym none) refl;
        mode = sym (ap (λ x. cond x (Some 0) None) calm);
        all = sym (append-nil es);
      },
    )

zero_by : (h : List Bool) → (trailing h ≡ 5) ⊎ (trailing h ≡ 5 → ⊥) → length (taken_out h) ≤ length (taken_out (false ∷ h))
zero_by h (inl five) = omega (arith, ap length (taken_out-five h five))
zero_by h (inr other) = omega (arith, ap length (taken_out-other h other))

length-taken_out : (b : Bool) (h : List Bool) → length (taken_out h) ≤ length (taken_out (b ∷ h))
length-taken_out true h = omega (arith, ap length (taken_out-one h))
length-taken_out false h = zero_by h (five_or_other h)

taken_out-drop : (n : ℕ) (h : List Bool) → length (taken_out (drop n h)) ≤ length (taken_out h)
taken_out-drop zero h = omega arith
taken_out-drop (suc n) [] = omega arith
taken_out-drop (suc n) (b ∷ h) = omega (arith, taken_out-drop n h, length-taken_out b h)

-- ---- six 1s
six_trailing : (h : List Bool) → six_ones h ≡ true → 6 ≤ trailing h
unfolding six_ones trailing
six_trailing (true ∷ true ∷ true ∷ true ∷ true ∷ true ∷ false ∷ h) six = omega arith
six_trailing _ six = absurd (let e : false ≡ true = six in cc)

few_trailing : (h : List Bool) → has_six h ≡ false → trailing h < 6
few_trailing [] none = omega (arith, trailing-none)
few_trailing (b ∷ h) none = (no_six-parts b h none).0

trailing-behind : (c g : List Bool) → trailing (c ++ false ∷ g) ≡ trailing c
unfolding trailing
trailing-behind [] g = refl
trailing-behind (true ∷ c) g = ap suc (trailing-behind c g)
trailing-behind (false ∷ c) g = refl

no_six_ahead : (c g : List Bool) → has_six c ≡ false → six_ones (c ++ false ∷ g) ≡ false
no_six_ahead c g none =
    isnt_true (six_ones (c ++ false ∷ g)) (λ six.
    let many : 6 ≤ trailing (c ++ false ∷ g) = six_trailing (c ++ false ∷ g) six in
    let few : trailing c < 6 = few_trailing c none in
    omega (arith, many, few, trailing-behind c g))

-- ---- after a flag
-- c follows a flag that ended h, the mode is normal, and nothing was reported
record Quiet (c h : List Bool) (es : List LineEvent) : Type 0 where
  runs : Runs (c ++ h) None es
  since : since_flag (c ++ h) ≡ Some c

more_quiet : (b : Bool) (c h : List Bool) (es : List LineEvent) → Quiet c h es → six_ones (c ++ h) ≡ false → length (taken_out (drop 6 c)) ≤ 2224 → Quiet (b ∷ c) h es
more_quiet b c h es q none short =
    let ends : ends_flag (b ∷ (c ++ h)) ≡ false = ends_flag-plain b (c ++ h) none in
    let since : since_flag (b ∷ (c ++ h)) ≡ Some (b ∷ c) = since_flag-other b (c ++ h) ends ∙ ap (λ s. option_map (λ d. b ∷ d) s) q.since in
    let calm : begins (b ∷ (c ++ h)) ≡ false =
    begins-plain b (c ++ h) none ∙ ap (λ d. nat_lt MOST_BITS (length (taken_out d))) (inside-is (b ∷ (c ++ h)) (b ∷ c) since)
    ∙ le-ltb 2224 (length (taken_out (drop 6 c))) short in
    record { runs = quiet b (c ++ h) es q.runs ends calm; since = since }

content_quiet : (c g : List Bool) (es : List LineEvent) → ends_flag (false ∷ g) ≡ true → Runs (false ∷ g) None es → has_six c ≡ false
    → length (taken_out c) ≤ 2224 → Quiet c (false ∷ g) es
content_quiet [] g es ends runs none short = record { runs = runs; since = since_flag-flag false g ends }
content_quiet (b ∷ c) g es ends runs none short =
    let parts : (trailing (b ∷ c) < 6) × (has_six c ≡ false) = no_six-parts b c none in
    let shorter : length (taken_out c) ≤ 2224 = omega (arith, short, length-taken_out b c) in
    more_quiet b c (false ∷ g) es (content_quiet c g es ends runs parts.1 shorter) (no_six_ahead c g parts.1)
    (omega (arith, shorter, taken_out-drop 6 c))

-- the first seven bits of a flag end no flag and begin no counting mode
record Front (c h : List Bool) (es : List LineEvent) : Type 0 where
  q0 : Quiet c h es
  q1 : Quiet (false ∷ c) h es
  q2 : Quiet (true ∷ false ∷ c) h es
  q3 : Quiet (true ∷ true ∷ false ∷ c) h es
  q4 : Quiet (true ∷ true ∷ true ∷ false ∷ c) h es
  q5 : Quiet (true ∷ true ∷ true ∷ true ∷ false ∷ c) h es
  q6 : Quiet (true ∷ true ∷ true ∷ true ∷ true ∷ false ∷ c) h es
  q7 : Quiet (true ∷ true ∷ true ∷ true ∷ true ∷ true ∷ false ∷ c) h es

front : (c g : List Bool) (es : List LineEvent) → ends_flag (false ∷ g) ≡ true → Runs (false ∷ g) None es → has_six c ≡ false
    → length (taken_out c) ≤ 2224 → Front c (false ∷ g) es
unfolding six_ones
front c g es ends runs none short =
    let h : List Bool = false ∷ g in
    let a0 : Quiet c h es = content_quiet c g es ends runs none short in
    let a1 : Quiet (false ∷ c) h es = more_quiet false c h es a0 (no_six_ahead c g none) (omega (arith, short, taken_out-drop 6 c)) in
    let a2 : Quiet (true ∷ false ∷ c) h es = more_quiet true (false ∷ c) h es a1 refl (omega (arith, short, taken_out-drop 5 c)) in
    let a3 : Quiet (true ∷ true ∷ false ∷ c) h es = more_quiet true (true ∷ false ∷ c) h es a2 refl (omega (arith, short, taken_out-drop 4 c)) in
    let a4 : Quiet (true ∷ true ∷ true ∷ false ∷ c) h es = more_quiet true (true ∷ true ∷ false ∷ c) h es a3 refl (omega (arith, short, taken_out-drop 3 c)) in
    let a5 : Quiet (true ∷ true ∷ true ∷ true ∷ false ∷ c) h es = more_quiet true (true ∷ true ∷ true ∷ false ∷ c) h es a4 refl (omega (arith, short, taken_out-drop 2 c)) in
    let a6 : Quiet (true ∷ true ∷ true ∷ true ∷ true ∷ false ∷ c) h es = more_quiet true (true ∷ true ∷ true ∷ true ∷ false ∷ c) h es a5 refl (omega (arith, short, taken_out-drop 1 c)) in
    let a7 : Quiet (true ∷ true ∷ true ∷ true ∷ true ∷ true ∷ false ∷ c) h es = more_quiet true (true ∷ true ∷ true ∷ true ∷ true ∷ false ∷ c) h es a6 refl (omega (arith, short, taken_out-drop 0 c)) in
    record { q0 = a0; q1 = a1; q2 = a2; q3 = a3; q4 = a4; q5 = a5; q6 = a6; q7 = a7 }

-- ---- a flag ends
abbrev full_flag : List Bool → List Bool → List Bool
full_flag c h = (true ∷ true ∷ true ∷ true ∷ true ∷ true ∷ false ∷ c) ++ h

flag_ends : (c h : List Bool) → ends_flag (false ∷ full_flag c h) ≡ true
unfolding ends_flag six_ones
flag_ends c h = refl

closed_by : (c h : List Bool) (es : List LineEvent) (verdict : Verdict) (given : List LineEvent) → Front c h es → IsJudged c verdict
    → mode_after verdict false None ≡ None → reports verdict None ≡ given → Runs (false ∷ full_flag c h) None (es ++ given)
unfolding Runs
closed_by c h es verdict given f judged normal gives =
    let ends : ends_flag (false ∷ full_flag c h) ≡ true = flag_ends c h in
    let six : six_ones (full_flag c h) ≡ true = sym (ends_flag-zero (full_flag c h)) ∙ ends in
    let is : inside (full_flag c h) ≡ c = inside-is (full_flag c h) (true ∷ true ∷ true ∷ true ∷ true ∷ true ∷ false ∷ c) f.q7.since in
    let P : Bool → Type 0 = λ e. MatchBool e (IsJudged (inside (full_flag c h)) verdict) (verdict ≡ Nothing) in
    let Q : List Bool → Type 0 = λ d. IsJudged d verdict in (
      None,
      es,
      f.q7.runs,
      record {
        verdict = verdict;
        closes = subst P (sym ends) (subst Q (sym is) judged);
        mode = sym (ap (λ x. mode_after verdict x None) (begins-flag (full_flag c h) six) ∙ normal);
        all = ap (λ l. es ++ l) (sym gives);
      },
    )

correct_gives : (octets : List ℕ) → (mode_after (Correct octets) false None ≡ None) × (reports (Correct octets) None ≡ events.Unit (record { items = octets }) ∷ [])
unfolding mode_after reports
correct_gives octets = (refl, refl)

nothing_gives : (mode_after Nothing false None ≡ None) × (reports Nothing None ≡ [])
unfolding mode_after reports
nothing_gives = (refl, refl)

behind : (h : List Bool) → ends_flag h ≡ true → (g : List Bool) × (h ≡ false ∷ g)
unfolding ends_flag
behind [] ends = absurd (let e : false ≡ true = ends in cc)
behind (true ∷ h) ends = absurd (let e : false ≡ true = ends in cc)
behind (false ∷ h) ends = (h, refl)

abbrev content_of_unit : List ℕ → List Bool
content_of_unit octets = stuffed (reverse (bits_of octets))

unit_front : (octets : List ℕ) (h : List Bool) (es : List LineEvent) → AreUnit octets → ends_flag h ≡ true → Runs h None es → Front (content_of_unit octets) h es
unit_front octets h es unit ends runs =
    let g : (g : List Bool) × (h ≡ false ∷ g) = behind h ends in
    let shape : IsStuffing (stuffed (reverse (bits_of octets))) (reverse (bits_of octets)) = is_stuffing (reverse (bits_of octets)) in
    let short : length (taken_out (stuffed (reverse (bits_of octets)))) ≤ 2224 =
    omega (arith, ap length shape.back, length-reverse (bits_of octets), length-bits_of octets, unit_fits octets unit) in
    let P : List Bool → Type 0 = λ l. Front (stuffed (reverse (bits_of octets))) l es in
    let Q : List Bool → Type 0 = λ l. Runs l None es in
    let R : List Bool → Type 0 = λ l. ends_flag l ≡ true in
    subst P (sym g.1) (front (stuffed (reverse (bits_of octets))) g.0 es (subst R g.1 ends) (subst Q g.1 runs) shape.no_six short)

unit_passes : (octets : List ℕ) (h : List Bool) (es : List LineEvent) → AreUnit octets → AreOctets octets → ends_flag h ≡ true → Runs h None es
    → Runs (false ∷ full_flag (content_of_unit octets) h) None (es ++ events.Unit (record { items = octets }) ∷ [])
unit_passes octets h es unit fit ends runs =
    closed_by (stuffed (reverse (bits_of octets))) h es (Correct octets) (events.Unit (record { items = octets }) ∷ []) (unit_front octets h es unit ends runs)
    (record { unit = unit; octets_fit = fit; stuffing = refl }) (correct_gives octets).0 (correct_gives octets).1

nothing_front : (h : List Bool) (es : List LineEvent) → ends_flag h ≡ true → Runs h None es → Front [] h es
unfolding has_six taken_out
nothing_front h es ends runs =
    let g : (g : List Bool) × (h ≡ false ∷ g) = behind h ends in
    let P : List Bool → Type 0 = λ l. Front [] l es in
    let Q : List Bool → Type 0 = λ l. Runs l None es in
    let R : List Bool → Type 0 = λ l. ends_flag l ≡ true in
    subst P (sym g.1) (front [] g.0 es (subst R g.1 ends) (subst Q g.1 runs) refl (omega arith))

opening_passes : (h : List Bool) (es : List LineEvent) → ends_flag h ≡ true → Runs h None es → Runs (false ∷ full_flag [] h) None es
opening_passes h es ends runs =
    let P : List LineEvent → Type 0 = λ l. Runs (false ∷ full_flag [] h) None l in
    subst P (append-nil es) (closed_by [] h es Nothing [] (nothing_front h es ends runs) refl nothing_gives.0 nothing_gives.1)

-- ---- whole lines
flag_history : (c h : List Bool) → reverse flag ++ (c ++ h) ≡ false ∷ full_flag c h
flag_history c h = refl

framed_history : (octets : List ℕ) (us : List (List ℕ)) (h : List Bool)
    → reverse (framed (octets ∷ us)) ++ h ≡ reverse (framed us) ++ (false ∷ full_flag (content_of_unit octets) h)
unfolding framed
framed_history octets us h =
    let c : List Bool = stuffed (reverse (bits_of octets)) in
    ap (λ l. l ++ h) (reverse-append (reverse c ++ flag) (framed us) ∙ ap (λ l. reverse (framed us) ++ l) (reverse-append (reverse c) flag ∙ ap (λ l. reverse flag ++ l) (reverse-reverse c)))
    ∙ append_assoc (reverse (framed us)) (reverse flag ++ c) h ∙ ap (λ l. reverse (framed us) ++ l) (append_assoc (reverse flag) c h ∙ flag_history c h)

nothing_framed : (h : List Bool) → reverse (framed []) ++ h ≡ h
unfolding framed
nothing_framed h = refl

pub framed_passes : (us : List (List ℕ)) (h : List Bool) (es : List LineEvent) → AreUnits us → ends_flag h ≡ true → Runs h None es
    → Runs (reverse (framed us) ++ h) None (es ++ unit_events us) × (ends_flag (reverse (framed us) ++ h) ≡ true)
framed_passes [] h es units ends runs =
    let P : List LineEvent → Type 0 = λ l. Runs (reverse (framed []) ++ h) None l in
    let Q : List Bool → Type 0 = λ l. Runs l None es in
    (subst P (sym (append-nil es)) (subst Q (sym (nothing_framed h)) runs), ap ends_flag (nothing_framed h) ∙ ends)
framed_passes (u ∷ us) h es units ends runs =
    let next : List Bool = false ∷ full_flag (content_of_unit u) h in
    let unit : LineEvent = events.Unit (record { items = u }) in
    let rest = framed_passes us next (es ++ unit ∷ []) units.1 (flag_ends (content_of_unit u) h) (unit_passes u h es units.0.0 units.0.1 ends runs) in
    let P : List LineEvent → Type 0 = λ l. Runs (reverse (framed us) ++ next) None l in
    let Q : List Bool → Type 0 = λ l. Runs l None (es ++ unit_events (u ∷ us)) in
    (subst Q (sym (framed_history u us h)) (subst P (append_assoc es (unit ∷ []) (unit_events us)) rest.0), ap ends_flag (framed_history u us h) ∙ rest.1)

partial : (c h : List Bool) (es : List LineEvent) (k : ℕ) → k ≤ 7 → Front c h es → Runs (reverse (take k flag) ++ (c ++ h)) None es
partial c h es zero small f = f.q0.runs
partial c h es (suc zero) small f = f.q1.runs
partial c h es (suc (suc zero)) small f = f.q2.runs
partial c h es (suc (suc (suc zero))) small f = f.q3.runs
partial c h es (suc (suc (suc (suc zero)))) small f = f.q4.runs
partial c h es (suc (suc (suc (suc (suc zero))))) small f = f.q5.runs
partial c h es (suc (suc (suc (suc (suc (suc zero)))))) small f = f.q6.runs
partial c h es (suc (suc (suc (suc (suc (suc (suc zero))))))) small f = f.q7.runs
partial c h es (suc (suc (suc (suc (suc (suc (suc (suc more)))))))) small f = absurd (omega arith)

line_is : (units : List (List ℕ)) → units ≢ [] → line_of units ≡ flag ++ framed units
unfolding line_of
line_is [] some = absurd (some refl)
line_is (u ∷ us) some = refl

opening_history : (h : List Bool) → reverse flag ++ h ≡ false ∷ full_flag [] h
opening_history h = refl

-- equal lists without their last bits
suffix : (xs r ys f : List Bool) → xs ++ r ≡ ys ++ f → length r ≤ length f → xs ≡ ys ++ take (length f - length r) f
suffix xs r ys f same short =
    let sum : length (xs ++ r) ≡ length (ys ++ f) = ap length same in
    let long : length xs ≡ length ys + (length f - length r) = omega (arith, sum, length-append xs r, length-append ys f, short) in
    sym (take-append_seam xs r) ∙ ap (λ l. take (length xs) l) same ∙ ap (λ n. take n (ys ++ f)) long ∙ take-append-add ys f (length f - length r)

record Last (units : List (List ℕ)) : Type 0 where
  init : List (List ℕ)
  last : List ℕ
  same : units ≡ init ++ last ∷ []
  less : without_last units ≡ init
  firsts : AreUnits init
  unit : AreUnit last

last_of : (u : List ℕ) (us : List (List ℕ)) → AreUnits (u ∷ us) → Last (u ∷ us)
last_of u [] units = record { init = []; last = u; same = refl; less = refl; firsts = tt; unit = units.0.0 }
last_of u (v ∷ us) units =
    let rest : Last (v ∷ us) = last_of v us units.1 in
    record {
      init = u ∷ rest.init;
      last = rest.last;
      same = ap (λ l. u ∷ l) rest.same;
      less = ap (λ l. u ∷ l) rest.less;
      firsts = (units.0, rest.firsts);
      unit = rest.unit;
    }

last_some : (units : List (List ℕ)) → units ≢ [] → AreUnits units → Last units
last_some [] some units = absurd (some refl)
last_some (u ∷ us) some units = last_of u us units

whole_line : (bits given : List Bool) (before after : List LineEvent) (units : List (List ℕ)) → Runs (reverse bits) None before → ends_flag (reverse bits) ≡ true
    → AreUnits units → units ≢ [] → given ≡ line_of units → AreEvents (bits ++ given) after → after ≡ before ++ unit_events units
whole_line bits given before after units runs ends are some is events =
    let h : List Bool = reverse bits in
    let opened : Runs (false ∷ full_flag [] h) None before = opening_passes h before ends runs in
    let all : Runs (reverse (framed units) ++ (false ∷ full_flag [] h)) None (before ++ unit_events units) =
    (framed_passes units (false ∷ full_flag [] h) before are (flag_ends [] h) opened).0 in
    let history : reverse (bits ++ given) ≡ reverse (framed units) ++ (false ∷ full_flag [] h) =
    reverse-append bits given ∙ ap (λ l. reverse l ++ h) (is ∙ line_is units some) ∙ ap (λ l. l ++ h) (reverse-append flag (framed units))
    ∙ append_assoc (reverse (framed units)) (reverse flag) h ∙ ap (λ l. reverse (framed units) ++ l) (opening_history h) in
    let P : List Bool → Type 0 = λ l. Runs l None (before ++ unit_events units) in
    (one_run (reverse (bits ++ given)) events.0 None after (before ++ unit_events units) events.1 (subst P (sym history) all)).1

part_line : (bits given rest : List Bool) (before after : List LineEvent) (units : List (List ℕ)) → Runs (reverse bits) None before → ends_flag (reverse bits) ≡ true
    → AreUnits units → units ≢ [] → given ++ rest ≡ line_of units → 0 < length rest → length rest < 8 → AreEvents (bits ++ given) after
    → after ≡ before ++ unit_events (without_last units)
part_line bits given rest before after units runs ends are some is missing few events =
    let h : List Bool = reverse bits in
    let l : Last units = last_some units some are in
    let c : List Bool = content_of_unit l.last in
    let k : ℕ = 8 - length rest in
    let opened : Runs (false ∷ full_flag [] h) None before = opening_passes h before ends runs in
    let firsts = framed_passes l.init (false ∷ full_flag [] h) before l.firsts (flag_ends [] h) opened in
    let g : List Bool = reverse (framed l.init) ++ (false ∷ full_flag [] h) in
    let es : List LineEvent = before ++ unit_events l.init in
    let all : Runs (reverse (take k flag) ++ (c ++ g)) None es = partial c g es k (omega arith) (unit_front l.last g es l.unit firsts.1 firsts.0) in
    let x : List Bool = (flag ++ framed l.init) ++ reverse c in
    let line : given ++ rest ≡ x ++ flag =
    is ∙ line_is units some ∙ ap (λ us. flag ++ framed us) l.same ∙ ap (λ d. flag ++ d) (framed-append l.init (l.last ∷ []) ∙ ap (λ d. framed l.init ++ d) (framed-one l.last))
    ∙ sym (append_assoc flag (framed l.init) (reverse c ++ flag)) ∙ sym (append_assoc (flag ++ framed l.init) (reverse c) flag) in
    let front_is : given ≡ x ++ take k flag = suffix given rest x flag line (omega arith) in
    let history : reverse (bits ++ given) ≡ reverse (take k flag) ++ (c ++ g) =
    reverse-append bits given ∙ ap (λ d. reverse d ++ h) front_is ∙ ap (λ d. d ++ h) (reverse-append x (take k flag)) ∙ append_assoc (reverse (take k flag)) (reverse x) h
    ∙ ap (λ d. reverse (take k flag) ++ d)
    (ap (λ d. d ++ h) (reverse-append (flag ++ framed l.init) (reverse c) ∙ ap (λ d. d ++ reverse (flag ++ framed l.init)) (reverse-reverse c))
    ∙ append_assoc c (reverse (flag ++ framed l.init)) h
    ∙ ap (λ d. c ++ d) (ap (λ d. d ++ h) (reverse-append flag (framed l.init)) ∙ append_assoc (reverse (framed l.init)) (reverse flag) h
    ∙ ap (λ d. reverse (framed l.init) ++ d) (opening_history h))) in
    let P : List Bool → Type 0 = λ d. Runs d None es in
    (one_run (reverse (bits ++ given)) events.0 None after es events.1 (subst P (sym history) all)).1 ∙ ap (λ us. before ++ unit_events us) (sym l.less)

pub passes_through : (bits : List Bool) (before after : List LineEvent) (given : List ℕ) (rest : List Bool) (units : List (List ℕ))
    → Runs (reverse bits) None before → ends_flag (reverse bits) ≡ true → AreUnits units → units ≢ []
    → bits_of given ++ rest ≡ line_of units → length rest < 8 → AreEvents (bits ++ bits_of given) after
    → after ≡ before ++ unit_events (arrived rest units)
passes_through bits before after given [] units runs ends are some is few events =
    whole_line bits (bits_of given) before after units runs ends are some (sym (append-nil (bits_of given)) ∙ is) events
passes_through bits before after given (r ∷ rest) units runs ends are some is few events =
    part_line bits (bits_of given) (r ∷ rest) before after units runs ends are some is (omega arith) few events
