-- Octets in turn up to the first one that reports something.
use Rattle.std.proofs.Common.{◌≡◌, ℕ, ◌+◌, ◌-◌, ◌<◌, Bool, List, [], ◌∷◌, ◌++◌, length, reverse, take, drop, get_or, sym, ap, ◌∙◌, arith, subst, append_assoc, refl}
use Rattle.std.proofs.lemmas.List.{append-nil, take_more, reverse-append, length-drop}
use Rattle.std.proofs.Math.Seq.{take-add}
use Rattle.su_octets.specs.Bits.{low_bits, bits_of}
use Rattle.bit_line.specs.Events.{AreEvents}
use Rattle.bit_line.specs.Deframing.{StandsAt, Stands}
use Rattle.bit_line.specs.declared.receiver.Receiver.{Receiver}
use Rattle.bit_line.specs.declared.events.LineEvent.{LineEvent}
use Rattle.bit_line.proofs.EventLaws.{stands_by, events_by}
use Rattle.su_octets.proofs.BitLists.{bits_of-append}
use Rattle.plain_laws.proofs.Lists.{tail_is}

pub quiet_step : (more : List Bool) (old new : Receiver) → ((h : List Bool) (es : List LineEvent) → StandsAt h es old → StandsAt (reverse more ++ h) es new)
    → (h : List Bool) (es : List LineEvent) → StandsAt h es old → StandsAt (reverse more ++ h) (es ++ []) new
quiet_step more old new step h es stands =
    let P : List LineEvent → Type 0 = λ l. StandsAt (reverse more ++ h) l new in subst P (sym (append-nil es)) (step h es stands)

pub none_given : (bits : List Bool) (events given : List LineEvent) → given ≡ [] → AreEvents bits (events ++ given) → AreEvents bits (events ++ [])
none_given bits events given none are = let P : List LineEvent → Type 0 = λ l. AreEvents bits (events ++ l) in subst P none are

pub none_of_length : (given : List LineEvent) → length given ≡ 0 → given ≡ []
none_of_length [] none = refl
none_of_length (e ∷ given) none = absurd (omega (arith, none))

-- ---- one octet more
next_bits : (i : ℕ) (octets : List ℕ) (bits : List Bool) → i < length octets
    → (bits ++ bits_of (take i octets)) ++ low_bits 8 (get_or octets i 0) ≡ bits ++ bits_of (take (i + 1) octets)
unfolding bits_of
next_bits i octets bits within =
    append_assoc bits (bits_of (take i octets)) (low_bits 8 (get_or octets i 0))
    ∙ ap (λ l. bits ++ l)
    (ap (λ l. bits_of (take i octets) ++ l) (sym (append-nil (low_bits 8 (get_or octets i 0)))) ∙ sym (bits_of-append (take i octets) (get_or octets i 0 ∷ []))
    ∙ ap bits_of (sym (take_more octets i 0 within)))

pub stands_next : (i : ℕ) (octets : List ℕ) (bits : List Bool) (d : Receiver) → i < length octets
    → Stands ((bits ++ bits_of (take i octets)) ++ low_bits 8 (get_or octets i 0)) d → Stands (bits ++ bits_of (take (i + 1) octets)) d
stands_next i octets bits d within stands = let P : List Bool → Type 0 = λ l. Stands l d in subst P (next_bits i octets bits within) stands

pub events_next : (i : ℕ) (octets : List ℕ) (bits : List Bool) (events : List LineEvent) → i < length octets
    → AreEvents ((bits ++ bits_of (take i octets)) ++ low_bits 8 (get_or octets i 0)) events → AreEvents (bits ++ bits_of (take (i + 1) octets)) events
events_next i octets bits events within are = let P : List Bool → Type 0 = λ l. AreEvents l events in subst P (next_bits i octets bits within) are

pub no_bits : (octets : List ℕ) (bits : List Bool) → bits ≡ bits ++ bits_of (take 0 octets)
unfolding bits_of
no_bits octets bits = sym (append-nil bits)

-- ---- some octets more

pub tail_length : (i : ℕ) (octets : List ℕ) → length (take (length octets - i) (drop i octets)) ≡ length octets - i
tail_length i octets = ap length (tail_is i octets) ∙ length-drop i octets

run_bits : (i n : ℕ) (octets : List ℕ) → bits_of (take (i + n) octets) ≡ bits_of (take i octets) ++ bits_of (take n (take (length octets - i) (drop i octets)))
run_bits i n octets =
    ap bits_of (take-add i n octets) ∙ bits_of-append (take i octets) (take n (drop i octets))
    ∙ ap (λ l. bits_of (take i octets) ++ bits_of (take n l)) (sym (tail_is i octets))

pub at_run : (i n : ℕ) (octets : List ℕ) (h : List Bool) (es : List LineEvent) (d : Receiver)
    → StandsAt (reverse (bits_of (take n (take (length octets - i) (drop i octets)))) ++ (reverse (bits_of (take i octets)) ++ h)) es d → StandsAt (reverse (bits_of (take (i + n) octets)) ++ h) es d
at_run i n octets h es d stands =
    let run : List Bool = bits_of (take n (take (length octets - i) (drop i octets))) in
    let P : List Bool → Type 0 = λ l. StandsAt l es d in
    subst P
    (sym (append_assoc (reverse run) (reverse (bits_of (take i octets))) h)
    ∙ ap (λ l. l ++ h) (sym (ap reverse (run_bits i n octets) ∙ reverse-append (bits_of (take i octets)) run))) stands

run_line : (i n : ℕ) (octets : List ℕ) (bits : List Bool)
    → (bits ++ bits_of (take i octets)) ++ bits_of (take n (take (length octets - i) (drop i octets))) ≡ bits ++ bits_of (take (i + n) octets)
run_line i n octets bits =
    append_assoc bits (bits_of (take i octets)) (bits_of (take n (take (length octets - i) (drop i octets)))) ∙ ap (λ l. bits ++ l) (sym (run_bits i n octets))

pub run_stands : (i n : ℕ) (octets : List ℕ) (bits : List Bool) (old new : Receiver)
    → ((h : List Bool) (es : List LineEvent) → StandsAt h es old → StandsAt (reverse (bits_of (take n (take (length octets - i) (drop i octets)))) ++ h) es new)
    → Stands (bits ++ bits_of (take i octets)) old → Stands (bits ++ bits_of (take (i + n) octets)) new
run_stands i n octets bits old new step stands =
    let run : List Bool = bits_of (take n (take (length octets - i) (drop i octets))) in
    let P : List Bool → Type 0 = λ l. Stands l new in
    subst P (run_line i n octets bits) (stands_by (bits ++ bits_of (take i octets)) run [] old new (λ h es. quiet_step run old new (λ g fs. step g fs) h es) stands)

pub run_events : (i n : ℕ) (octets : List ℕ) (bits : List Bool) (events : List LineEvent) (old new : Receiver)
    → ((h : List Bool) (es : List LineEvent) → StandsAt h es old → StandsAt (reverse (bits_of (take n (take (length octets - i) (drop i octets)))) ++ h) es new)
    → Stands (bits ++ bits_of (take i octets)) old → AreEvents (bits ++ bits_of (take i octets)) events → AreEvents (bits ++ bits_of (take (i + n) octets)) events
run_events i n octets bits events old new step stands are =
    let run : List Bool = bits_of (take n (take (length octets - i) (drop i octets))) in
    let P : List Bool → Type 0 = λ l. AreEvents l events in
    let Q : List LineEvent → Type 0 = λ l. AreEvents ((bits ++ bits_of (take i octets)) ++ run) l in
    subst P (run_line i n octets bits)
    (subst Q (append-nil events) (events_by (bits ++ bits_of (take i octets)) run [] events old new (λ h es. quiet_step run old new (λ g fs. step g fs) h es) stands are))

pub start_stands : (bits : List Bool) (d : Receiver) → Stands bits d → Stands (bits ++ bits_of []) d
unfolding bits_of
start_stands bits d stands = let P : List Bool → Type 0 = λ l. Stands l d in subst P (sym (append-nil bits)) stands

pub start_events : (bits : List Bool) (events : List LineEvent) → AreEvents bits events → AreEvents (bits ++ bits_of []) events
unfolding bits_of
start_events bits events are = let P : List Bool → Type 0 = λ l. AreEvents l events in subst P (sym (append-nil bits)) are

pub quiet_next : (i : ℕ) (octets : List ℕ) (bits : List Bool) (events : List LineEvent) → i < length octets
    → AreEvents ((bits ++ bits_of (take i octets)) ++ low_bits 8 (get_or octets i 0)) (events ++ []) → AreEvents (bits ++ bits_of (take (i + 1) octets)) events
quiet_next i octets bits events within are =
    let P : List LineEvent → Type 0 = λ l. AreEvents (bits ++ bits_of (take (i + 1) octets)) l in
    subst P (append-nil events) (events_next i octets bits (events ++ []) within are)
