-- Reported units decode, and eight bits close at most one content.
use Rattle.std.proofs.Common.{◌≡◌, ℕ, ◌+◌, ◌-◌, ◌*◌, ◌%◌, ◌≤◌, Bool, true, false, cond, Option, Some, None, List, [], ◌∷◌, ◌++◌, length, drop, reverse, refl, sym, ap, ◌∙◌, arith, subst, append_assoc}
use Rattle.std.specs.Prelude.{◌==◌, ◌≢◌, unwrap_or}
use Rattle.std.specs.Bool.{MatchBool}
use Rattle.std.specs.List.{All}
use Rattle.std.specs.Option.{option_map}
use Rattle.std.proofs.lemmas.List.{append-nil, append_cancel_left, length-reverse, reverse-append}
use Rattle.std.proofs.lemmas.List.Elements.{All-nil, All-cons, All-append, All-contains, All-contains_itself, Contains-append_right}
use Rattle.bit_line.specs.Flags.{ends_flag, since_flag, inside}
use Rattle.bit_line.specs.Deframing.{StandsAt, Stands, latest}
use Rattle.bit_line.specs.Events.{Verdict, Correct, Wrong, Nothing, IsCorrect, IsJudged, Runs, AreEvents, UnitsDecode, IsSound, closings, reports, sixteens}
use Rattle.bit_line.specs.declared.receiver.Receiver.{Receiver}
use Rattle.bit_line.specs.declared.events.LineEvent.{LineEvent}
use Rattle.bit_line.specs.declared.events.LineEvent.TheVariants as events
use Rattle.bit_line.proofs.FlagLaws.{since_flag-flag, since_flag-other}
use Rattle.bit_line.proofs.EventLaws.{one_run, correct_some, stands_events, events_by}

-- ---- reported units decode
correct_of : (e : Bool) (c : List Bool) (octets : List ℕ) → MatchBool e (IsJudged c (Correct octets)) (Correct octets ≡ Nothing) → IsCorrect c octets
correct_of true c octets closes = closes
correct_of false c octets closes = absurd (let e : Correct octets ≡ Nothing = closes in cc)

full_sound : (b : Bool) → All IsSound (cond b (events.SixteenOctets ∷ []) [])
full_sound true = All-cons IsSound events.SixteenOctets [] tt (All-nil IsSound)
full_sound false = All-nil IsSound

sixteens_sound : (n : ℕ) → All IsSound (sixteens n)
unfolding sixteens
sixteens_sound n = full_sound (n % 128 == 0)

unit_sound : (e : Bool) (c : List Bool) (octets : List ℕ) → MatchBool e (IsJudged c (Correct octets)) (Correct octets ≡ Nothing)
    → All IsSound (events.Unit (record { items = octets }) ∷ [])
unit_sound e c octets closes =
    let is : IsCorrect c octets = correct_of e c octets closes in
    All-cons IsSound (events.Unit (record { items = octets })) [] (is.unit, is.octets_fit) (All-nil IsSound)

reports_sound : (e : Bool) (c : List Bool) (verdict : Verdict) (mode : Option ℕ) → MatchBool e (IsJudged c verdict) (verdict ≡ Nothing) → All IsSound (reports verdict mode)
unfolding reports
reports_sound e c (Correct octets) (Some n) closes = All-append IsSound (sixteens (n + 1)) (events.Unit (record { items = octets }) ∷ []) (sixteens_sound (n + 1)) (unit_sound e c octets closes)
reports_sound e c (Correct octets) None closes = unit_sound e c octets closes
reports_sound e c Wrong (Some n) closes = sixteens_sound (n + 1)
reports_sound e c Wrong None closes = All-cons IsSound events.Errored [] tt (All-nil IsSound)
reports_sound e c Nothing (Some n) closes = sixteens_sound (n + 1)
reports_sound e c Nothing None closes = All-nil IsSound

run_sound : (h : List Bool) (mode : Option ℕ) (all : List LineEvent) → Runs h mode all → All IsSound all
unfolding Runs
run_sound [] mode all runs = subst (All IsSound) (sym runs.1) (All-nil IsSound)
run_sound (b ∷ h) mode all runs =
    subst (All IsSound) (sym runs.3.all)
    (All-append IsSound runs.1 (reports runs.3.verdict runs.0) (run_sound h runs.0 runs.1 runs.2)
    (reports_sound (ends_flag (b ∷ h)) (inside h) runs.3.verdict runs.0 runs.3.closes))

pub events_decode : (bits : List Bool) (events : List LineEvent) → AreEvents bits events → UnitsDecode events
events_decode bits events are = run_sound (reverse bits) are.0 events are.1

-- ---- how many contents a verdict closes
abbrev weight : Verdict → ℕ
weight (Correct octets) = 1
weight Wrong = 1
weight Nothing = 0

closings-append : (xs ys : List LineEvent) → closings (xs ++ ys) ≡ closings xs + closings ys
closings-append [] ys = omega arith
closings-append (events.Unit octets ∷ xs) ys = omega (arith, closings-append xs ys)
closings-append (events.Errored ∷ xs) ys = omega (arith, closings-append xs ys)
closings-append (events.SixteenOctets ∷ xs) ys = closings-append xs ys

full_closes : (b : Bool) → closings (cond b (events.SixteenOctets ∷ []) []) ≡ 0
full_closes true = refl
full_closes false = refl

sixteens_close : (n : ℕ) → closings (sixteens n) ≡ 0
unfolding sixteens
sixteens_close n = full_closes (n % 128 == 0)

reports_close : (verdict : Verdict) (mode : Option ℕ) → closings (reports verdict mode) ≤ weight verdict
unfolding reports
reports_close (Correct octets) (Some n) = omega (arith, closings-append (sixteens (n + 1)) (events.Unit (record { items = octets }) ∷ []), sixteens_close (n + 1))
reports_close (Correct octets) None = omega arith
reports_close Wrong (Some n) = omega (arith, sixteens_close (n + 1))
reports_close Wrong None = omega arith
reports_close Nothing (Some n) = omega (arith, sixteens_close (n + 1))
reports_close Nothing None = omega arith

-- ---- the number of bits missing before a flag can close a content
abbrev missing : List Bool → ℕ
missing h = 7 - length (latest h)

grown : (b : Bool) (s : Option (List Bool)) → length (unwrap_or (option_map (λ c. b ∷ c) s) []) ≤ length (unwrap_or s []) + 1
grown b None = omega arith
grown b (Some c) = omega arith

other_missing : (b : Bool) (h : List Bool) → ends_flag (b ∷ h) ≡ false → missing h ≤ missing (b ∷ h) + 1
other_missing b h other =
    let now : length (latest (b ∷ h)) ≤ length (latest h) + 1 =
    (let P : Option (List Bool) → Type 0 = λ s. length (unwrap_or s []) ≤ length (latest h) + 1 in subst P (sym (since_flag-other b h other)) (grown b (since_flag h))) in
    omega (arith, now)

flag_missing : (b : Bool) (h : List Bool) → ends_flag (b ∷ h) ≡ true → missing (b ∷ h) ≡ 7
flag_missing b h ends = ap (λ s. 7 - length (unwrap_or s [])) (since_flag-flag b h ends)

long_enough : (c : List Bool) → drop 7 c ≢ [] → 8 ≤ length c
long_enough (c0 ∷ c1 ∷ c2 ∷ c3 ∷ c4 ∷ c5 ∷ c6 ∷ c7 ∷ c) some = omega arith
long_enough ([]) some = absurd (some refl)
long_enough (c0 ∷ []) some = absurd (some refl)
long_enough (c0 ∷ c1 ∷ []) some = absurd (some refl)
long_enough (c0 ∷ c1 ∷ c2 ∷ []) some = absurd (some refl)
long_enough (c0 ∷ c1 ∷ c2 ∷ c3 ∷ []) some = absurd (some refl)
long_enough (c0 ∷ c1 ∷ c2 ∷ c3 ∷ c4 ∷ []) some = absurd (some refl)
long_enough (c0 ∷ c1 ∷ c2 ∷ c3 ∷ c4 ∷ c5 ∷ []) some = absurd (some refl)
long_enough (c0 ∷ c1 ∷ c2 ∷ c3 ∷ c4 ∷ c5 ∷ c6 ∷ []) some = absurd (some refl)

inside_long : (h : List Bool) → inside h ≢ [] → missing h ≡ 0
unfolding inside
inside_long h some = let long : 8 ≤ length (latest h) = long_enough (latest h) some in omega (arith, long)

close_pace : (b : Bool) (h : List Bool) (verdict : Verdict) (e : Bool) → ends_flag (b ∷ h) ≡ e → MatchBool e (IsJudged (inside h) verdict) (verdict ≡ Nothing)
    → 8 * weight verdict + missing h ≤ missing (b ∷ h) + 1
close_pace b h verdict false other closes = omega (arith, ap weight closes, other_missing b h other)
close_pace b h (Correct octets) true ends closes = omega (arith, flag_missing b h ends, inside_long h (correct_some (inside h) octets closes))
close_pace b h Wrong true ends closes = omega (arith, flag_missing b h ends, inside_long h closes.0)
close_pace b h Nothing true ends closes = omega (arith, flag_missing b h ends)

-- ---- more bits after a history
record Paced (more h : List Bool) (all : List LineEvent) : Type 0 where
  mode : Option ℕ
  before : List LineEvent
  given : List LineEvent
  runs : Runs h mode before
  is : all ≡ before ++ given
  pace : 8 * closings given + missing h ≤ missing (more ++ h) + length more

paced : (more h : List Bool) (mode : Option ℕ) (all : List LineEvent) → Runs (more ++ h) mode all → Paced more h all
unfolding Runs
paced [] h mode all runs = record { mode = mode; before = all; given = []; runs = runs; is = sym (append-nil all); pace = omega arith }
paced (b ∷ more) h mode all runs =
    let rest : Paced more h runs.1 = paced more h runs.0 runs.1 runs.2 in
    let new : List LineEvent = reports runs.3.verdict runs.0 in
    record {
      mode = rest.mode;
      before = rest.before;
      given = rest.given ++ new;
      runs = rest.runs;
      is = runs.3.all ∙ ap (λ l. l ++ new) rest.is ∙ append_assoc rest.before rest.given new;
      pace = omega (
        arith,
        closings-append rest.given new,
        reports_close runs.3.verdict runs.0,
        rest.pace,
        close_pace b (more ++ h) runs.3.verdict (ends_flag (b ∷ (more ++ h))) refl runs.3.closes,
      );
    }

pub closings_paced : (bits more : List Bool) (before given : List LineEvent) → AreEvents bits before → AreEvents (bits ++ more) (before ++ given)
    → 8 * closings given ≤ length more + 7
closings_paced bits more before given are after =
    let P : List Bool → Type 0 = λ h. Runs h after.0 (before ++ given) in
    let p : Paced (reverse more) (reverse bits) (before ++ given) = paced (reverse more) (reverse bits) after.0 (before ++ given) (subst P (reverse-append bits more) after.1) in
    let first : before ≡ p.before = (one_run (reverse bits) are.0 p.mode before p.before are.1 p.runs).1 in
    let same : given ≡ p.given = append_cancel_left before given p.given (p.is ∙ ap (λ l. l ++ p.given) (sym first)) in
    omega (arith, ap closings same, p.pace, length-reverse more)

-- ---- the reports of a deframer for more bits
run_behind : (bits more : List Bool) (given : List LineEvent) (old new : Receiver)
    → ((h : List Bool) (es : List LineEvent) → StandsAt h es old → StandsAt (reverse more ++ h) (es ++ given) new) → Stands bits old
    → (before : List LineEvent) × AreEvents bits before × AreEvents (bits ++ more) (before ++ given)
run_behind bits more given old new step stands =
    let are : (before : List LineEvent) × AreEvents bits before = stands_events bits old stands in
    (are.0, are.1, events_by bits more given are.0 old new step stands are.1)

back_sound : (xs ys : List LineEvent) → All IsSound (xs ++ ys) → All IsSound ys
back_sound xs ys all = λ k d within. All-contains IsSound (xs ++ ys) _ all (Contains-append_right xs ys _ (All-contains_itself ys k d within))

pub decode_by : (bits more : List Bool) (given : List LineEvent) (old new : Receiver)
    → ((h : List Bool) (es : List LineEvent) → StandsAt h es old → StandsAt (reverse more ++ h) (es ++ given) new) → Stands bits old → UnitsDecode given
decode_by bits more given old new step stands =
    let run = run_behind bits more given old new step stands in
    back_sound run.0 given (events_decode (bits ++ more) (run.0 ++ given) run.2)

pub closes_by : (bits more : List Bool) (given : List LineEvent) (old new : Receiver)
    → ((h : List Bool) (es : List LineEvent) → StandsAt h es old → StandsAt (reverse more ++ h) (es ++ given) new) → Stands bits old → 8 * closings given ≤ length more + 7
closes_by bits more given old new step stands =
    let run = run_behind bits more given old new step stands in
    closings_paced bits more run.0 given run.1 run.2
