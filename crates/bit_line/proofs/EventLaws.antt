-- A line has one list of events, and a deframer after its bits has reported them.
use Rattle.std.proofs.Common.{◌≡◌, ℕ, ◌+◌, ◌/◌, ◌^◌, ◌<◌, ◌≤◌, Bool, true, false, Option, List, [], ◌∷◌, ◌++◌, length, reverse, take, get_or, refl, sym, ap, ◌∙◌, arith, subst, append_assoc}
use Rattle.std.specs.Prelude.{◌==◌, bit_and}
use Rattle.std.specs.Bool.{MatchBool}
use Rattle.std.proofs.lemmas.List.{append-nil, length-reverse, reverse-reverse, reverse-append, take_more, take_all}
use Rattle.std.proofs.lemmas.Nat.Bits.{shr_and_one}
use Rattle.su_octets.specs.Bits.{low_bits, bits_of}
use Rattle.bit_line.specs.Stuffing.{taken_out}
use Rattle.bit_line.specs.Flags.{ends_flag, inside, begins}
use Rattle.bit_line.specs.Events.{Verdict, Correct, Wrong, Nothing, IsCorrect, IsJudged, Runs, AreEvents, mode_after, reports}
use Rattle.bit_line.specs.Deframing.{LetsIn, Fits, StandsAt, Stands}
use Rattle.bit_line.specs.declared.receiver.Receiver.{Receiver}
use Rattle.bit_line.specs.declared.events.LineEvent.{LineEvent}
use Rattle.bit_line.proofs.ContentLaws.{correct_shape, unit_fits}
use Rattle.su_octets.proofs.BitLists.{low_bits-split, bits_of-append, length-bits_of, bits_of-same}

-- ---- one verdict
same_octets : (c : List Bool) (a b : List ℕ) → IsCorrect c a → IsCorrect c b → a ≡ b
same_octets c a b of_a of_b =
    let bits : reverse (bits_of a) ≡ reverse (bits_of b) = sym (correct_shape c a of_a).back ∙ (correct_shape c b of_b).back in
    let same : bits_of a ≡ bits_of b = sym (reverse-reverse (bits_of a)) ∙ ap reverse bits ∙ reverse-reverse (bits_of b) in
    let long : length a ≡ length b = omega (arith, length-bits_of a, length-bits_of b, ap length same) in
    bits_of-same a b of_a.octets_fit of_b.octets_fit long same

pub correct_some : (c : List Bool) (a : List ℕ) → IsCorrect c a → c ≡ [] → ⊥
unfolding taken_out
correct_some c a correct none =
    let nothing : reverse (bits_of a) ≡ [] = sym (correct_shape c a correct).back ∙ ap taken_out none in
    omega (arith, ap length nothing, length-reverse (bits_of a), length-bits_of a, unit_fits a correct.unit)

one_verdict : (c : List Bool) (v w : Verdict) → IsJudged c v → IsJudged c w → v ≡ w
one_verdict c (Correct a) (Correct b) x y = ap Correct (same_octets c a b x y)
one_verdict c (Correct a) Wrong x y = absurd (y.1 a x)
one_verdict c (Correct a) Nothing x y = absurd (correct_some c a x y)
one_verdict c Wrong (Correct b) x y = absurd (x.1 b y)
one_verdict c Wrong Wrong x y = refl
one_verdict c Wrong Nothing x y = absurd (x.0 y)
one_verdict c Nothing (Correct b) x y = absurd (correct_some c b y x)
one_verdict c Nothing Wrong x y = absurd (y.0 x)
one_verdict c Nothing Nothing x y = refl

one_closing : (e : Bool) (c : List Bool) (v w : Verdict) → MatchBool e (IsJudged c v) (v ≡ Nothing) → MatchBool e (IsJudged c w) (w ≡ Nothing) → v ≡ w
one_closing true c v w x y = one_verdict c v w x y
one_closing false c v w x y = x ∙ sym y

-- a history has one mode and one list of events
pub one_run : (h : List Bool) (m n : Option ℕ) (es fs : List LineEvent) → Runs h m es → Runs h n fs → (m ≡ n) × (es ≡ fs)
unfolding Runs
one_run [] m n es fs x y = (x.0 ∙ sym y.0, x.1 ∙ sym y.1)
one_run (b ∷ h) m n es fs x y =
    let earlier : (x.0 ≡ y.0) × (x.1 ≡ y.1) = one_run h x.0 y.0 x.1 y.1 x.2 y.2 in
    let verdict : x.3.verdict ≡ y.3.verdict = one_closing (ends_flag (b ∷ h)) (inside h) x.3.verdict y.3.verdict x.3.closes y.3.closes in (
      x.3.mode ∙ ap (λ v. mode_after v (begins (b ∷ h)) x.0) verdict ∙ ap (λ k. mode_after y.3.verdict (begins (b ∷ h)) k) earlier.0 ∙ sym y.3.mode,
      x.3.all ∙ ap (λ l. l ++ reports x.3.verdict x.0) earlier.1 ∙ ap (λ v. y.1 ++ reports v x.0) verdict ∙ ap (λ k. y.1 ++ reports y.3.verdict k) earlier.0 ∙ sym y.3.all,
    )

-- a line has one list of events
pub one_events : (bits : List Bool) (es fs : List LineEvent) → AreEvents bits es → AreEvents bits fs → es ≡ fs
one_events bits es fs x y = (one_run (reverse bits) x.0 y.0 es fs x.1 y.1).1

-- ---- more bits
pub stands_events : (bits : List Bool) (d : Receiver) → Stands bits d → (events : List LineEvent) × AreEvents bits events
unfolding Stands StandsAt
stands_events bits d stands = let mode : Option ℕ = stands.1.0 in (stands.0, (mode, stands.1.1))

pub stands_by : (bits more : List Bool) (given : List LineEvent) (old new : Receiver)
    → ((h : List Bool) (events : List LineEvent) → StandsAt h events old → StandsAt (reverse more ++ h) (events ++ given) new) → Stands bits old → Stands (bits ++ more) new
unfolding Stands
stands_by bits more given old new step stands =
    let P : List Bool → Type 0 = λ h. StandsAt h (stands.0 ++ given) new in
    (stands.0 ++ given, subst P (sym (reverse-append bits more)) (step (reverse bits) stands.0 stands.1))

at_these : (h : List Bool) (events : List LineEvent) (mode : Option ℕ) (d : Receiver) → Runs h mode events → (es : List LineEvent) → StandsAt h es d → StandsAt h events d
unfolding StandsAt
at_these h events mode d runs es stands =
    let same : es ≡ events = (one_run h stands.0 mode es events stands.1 runs).1 in
    let P : List LineEvent → Type 0 = λ l. Runs h stands.0 l in
    (stands.0, subst P same stands.1, stands.2)

run_of : (h : List Bool) (events : List LineEvent) (d : Receiver) → StandsAt h events d → (mode : Option ℕ) × Runs h mode events
unfolding StandsAt
run_of h events d stands = (stands.0, stands.1)

pub events_by : (bits more : List Bool) (given events : List LineEvent) (old new : Receiver)
    → ((h : List Bool) (es : List LineEvent) → StandsAt h es old → StandsAt (reverse more ++ h) (es ++ given) new)
    → Stands bits old → AreEvents bits events → AreEvents (bits ++ more) (events ++ given)
unfolding Stands
events_by bits more given events old new step stands are =
    let at : StandsAt (reverse bits) events old = at_these (reverse bits) events are.0 old are.1 stands.0 stands.1 in
    let after : StandsAt (reverse more ++ reverse bits) (events ++ given) new = step (reverse bits) events at in
    let P : List Bool → Type 0 = λ h. (mode : Option ℕ) × Runs h mode (events ++ given) in
    subst P (sym (reverse-append bits more)) (run_of (reverse more ++ reverse bits) (events ++ given) new after)

-- ---- an octet bit by bit
octet_more : (i octet : ℕ) (h : List Bool) → reverse (low_bits (i + 1) octet) ++ h ≡ (bit_and (octet / 2 ^ i) 1 == 1) ∷ (reverse (low_bits i octet) ++ h)
unfolding low_bits
octet_more i octet h =
    ap (λ bs. reverse bs ++ h) (low_bits-split i 1 octet)
    ∙ ap (λ bs. bs ++ h) (reverse-append (low_bits i octet) (low_bits 1 (octet / 2 ^ i)))
    ∙ ap (λ n. (n == 1) ∷ (reverse (low_bits i octet) ++ h)) (sym (shr_and_one octet i))

pub at_none : (octet : ℕ) (h : List Bool) (events given : List LineEvent) (d : Receiver) → given ≡ [] → StandsAt h events d → StandsAt (reverse (low_bits 0 octet) ++ h) (events ++ given) d
unfolding low_bits
at_none octet h events given d none stands =
    let P : List LineEvent → Type 0 = λ l. StandsAt h l d in subst P (sym (ap (λ l. events ++ l) none ∙ append-nil events)) stands

pub at_zero : (octet : ℕ) (h : List Bool) (events : List LineEvent) (d : Receiver) → StandsAt h events d → StandsAt (reverse (low_bits 0 octet) ++ h) events d
unfolding low_bits
at_zero octet h events d stands = stands

pub at_more : (i octet : ℕ) (h : List Bool) (events old rs new : List LineEvent) (d : Receiver) → new ≡ old ++ rs
    → StandsAt ((bit_and (octet / 2 ^ i) 1 == 1) ∷ (reverse (low_bits i octet) ++ h)) ((events ++ old) ++ rs) d → StandsAt (reverse (low_bits (i + 1) octet) ++ h) (events ++ new) d
at_more i octet h events old rs new d is stands =
    let P : List Bool → Type 0 = λ l. StandsAt l (events ++ new) d in
    let Q : List LineEvent → Type 0 = λ l. StandsAt ((bit_and (octet / 2 ^ i) 1 == 1) ∷ (reverse (low_bits i octet) ++ h)) l d in
    subst P (sym (octet_more i octet h)) (subst Q (append_assoc events old rs ∙ ap (λ l. events ++ l) (sym is)) stands)

pub at_end : (i octet : ℕ) (h : List Bool) (events : List LineEvent) (d : Receiver) → i ≡ 8 → StandsAt (reverse (low_bits i octet) ++ h) events d
    → StandsAt (reverse (low_bits 8 octet) ++ h) events d
at_end i octet h events d eight stands = let P : ℕ → Type 0 = λ n. StandsAt (reverse (low_bits n octet) ++ h) events d in subst P eight stands

-- ---- octets in turn
pub at_start : (h : List Bool) (events given : List LineEvent) (d : Receiver) → given ≡ [] → StandsAt h events d → StandsAt (reverse (bits_of []) ++ h) (events ++ given) d
unfolding bits_of
at_start h events given d none stands =
    let P : List LineEvent → Type 0 = λ l. StandsAt h l d in subst P (sym (ap (λ l. events ++ l) none ∙ append-nil events)) stands

next_octet : (i : ℕ) (octets : List ℕ) (h : List Bool) → i < length octets
    → reverse (bits_of (take (i + 1) octets)) ++ h ≡ reverse (low_bits 8 (get_or octets i 0)) ++ (reverse (bits_of (take i octets)) ++ h)
unfolding bits_of
next_octet i octets h within =
    ap (λ l. reverse l ++ h)
    (ap bits_of (take_more octets i 0 within) ∙ bits_of-append (take i octets) (get_or octets i 0 ∷ [])
    ∙ ap (λ l. bits_of (take i octets) ++ l) (append-nil (low_bits 8 (get_or octets i 0))))
    ∙ ap (λ l. l ++ h) (reverse-append (bits_of (take i octets)) (low_bits 8 (get_or octets i 0)))
    ∙ append_assoc (reverse (low_bits 8 (get_or octets i 0))) (reverse (bits_of (take i octets))) h

pub at_next : (i : ℕ) (octets : List ℕ) (h : List Bool) (events : List LineEvent) (d : Receiver) → i < length octets
    → StandsAt (reverse (low_bits 8 (get_or octets i 0)) ++ (reverse (bits_of (take i octets)) ++ h)) events d → StandsAt (reverse (bits_of (take (i + 1) octets)) ++ h) events d
at_next i octets h events d within stands = let P : List Bool → Type 0 = λ l. StandsAt l events d in subst P (sym (next_octet i octets h within)) stands

pub at_whole : (i : ℕ) (octets : List ℕ) (h : List Bool) (events : List LineEvent) (d : Receiver) → length octets ≤ i
    → StandsAt (reverse (bits_of (take i octets)) ++ h) events d → StandsAt (reverse (bits_of octets) ++ h) events d
at_whole i octets h events d whole stands = let P : List ℕ → Type 0 = λ l. StandsAt (reverse (bits_of l) ++ h) events d in subst P (take_all i octets whole) stands

-- ---- a copy has the state of the original
pub copy_stands : (h : List Bool) (events : List LineEvent) (old new : Receiver) → new.recent ≡ old.recent → (LetsIn h old.gate → LetsIn h new.gate) → new.counter.count ≡ old.counter.count
    → StandsAt h events old → StandsAt h events new
unfolding StandsAt
copy_stands h events old new recent gate count stands =
    let fits : Fits h stands.0 old = stands.2 in
    (stands.0, stands.1, record { recent = ap (λ n. low_bits 7 n) recent ∙ fits.recent; gate = gate fits.gate; counting = count ∙ fits.counting })

-- ---- an octet a few bits at a time
few_more : (i n octet : ℕ) (h : List Bool) → reverse (low_bits n (octet / 2 ^ i)) ++ (reverse (low_bits i octet) ++ h) ≡ reverse (low_bits (i + n) octet) ++ h
few_more i n octet h =
    sym (append_assoc (reverse (low_bits n (octet / 2 ^ i))) (reverse (low_bits i octet)) h)
    ∙ ap (λ bs. bs ++ h) (sym (ap reverse (low_bits-split i n octet) ∙ reverse-append (low_bits i octet) (low_bits n (octet / 2 ^ i))))

pub at_few : (i n octet : ℕ) (h : List Bool) (events : List LineEvent) (d : Receiver) → StandsAt (reverse (low_bits n (octet / 2 ^ i)) ++ (reverse (low_bits i octet) ++ h)) events d
    → StandsAt (reverse (low_bits (i + n) octet) ++ h) events d
at_few i n octet h events d stands = let P : List Bool → Type 0 = λ l. StandsAt l events d in subst P (few_more i n octet h) stands
