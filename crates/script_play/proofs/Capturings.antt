-- The capture of a link, unit by unit.
use Rattle.std.proofs.Common.{◌≡◌, ◌∙◌, ℕ, zero, suc, ◌+◌, ◌<◌, Bool, true, false, List, [], ◌∷◌, ◌++◌, append-nil, append_assoc, length, take, reverse, get_or, Option, arith, sym, ap, subst}
use Rattle.std.specs.Io.KnownBytes.{Appends}
use Rattle.std.specs.List.{flat_map}
use Rattle.std.proofs.KnownBytes.{Appends-trans}
use Rattle.std.proofs.lemmas.List.{take_more, reverse-append}
use Rattle.std.proofs.lemmas.Grind.{flat_map-append}
use Rattle.su_octets.specs.Bits.{bits_of}
use Rattle.bit_line.specs.Deframing.{Stands}
use Rattle.line_streams.specs.Capturing.{IsUnit, Ends, capture_of}
use Rattle.line_streams.specs.Records.{HEADER, record_of}
use Rattle.line_streams.specs.Repeats.{kept, with_kept, is_kept, StandsFor}
use Rattle.line_streams.specs.declared.seen.Seen.{Seen}
use Rattle.script_play.specs.Captured.{repeated, Hears, nothing, one, IsHeard, IsCapturing}
use Rattle.script_play.specs.declared.capturing.LinkSeen.{LinkSeen}

-- no octet was received yet
pub none_came : (link : ℕ) (every : Bool) (l : LinkSeen) → l.repeats.every ≡ every → Stands [] l.heard → StandsFor link [] l.repeats → IsHeard link every [] [] l
unfolding bits_of
none_came link every l every_is hears recalls = record { every_is = every_is; hears = hears; recalls = recalls }

-- ---- one signal unit

kept_is : (every keeps : Bool) (s : Seen) (ss : List Seen) → keeps ≡ is_kept every (kept every ss) s → kept every (s ∷ ss) ≡ with_kept keeps s (kept every ss)
kept_is every keeps s ss is = ap (λ (k : Bool). with_kept k s (kept every ss)) (sym is)

-- whether the unit is recorded
decided : (every keeps : Bool) (s : Seen) (came : List ℕ) (ss : List Seen) (begun old : Option (List ℕ)) (l : LinkSeen) → IsCapturing s.link every came ss begun old l
    → ((h : List Seen) → StandsFor s.link h l.repeats → keeps ≡ is_kept l.repeats.every h s) → keeps ≡ is_kept every (kept every ss) s
decided every keeps s came ss begun old l c keeps_is =
    let E : Bool → Type 0 = λ e. keeps ≡ is_kept e (kept every ss) s in
    subst E c.heard.every_is (keeps_is (kept every ss) c.heard.recalls)

-- the link's state after the unit
noted : (every keeps : Bool) (s : Seen) (came : List ℕ) (ss : List Seen) (l m : LinkSeen) → m.heard ≡ l.heard → m.repeats.every ≡ l.repeats.every
    → ((h : List Seen) → StandsFor s.link h l.repeats → StandsFor s.link (with_kept keeps s h) m.repeats) → keeps ≡ is_kept every (kept every ss) s
    → IsHeard s.link every came ss l → IsHeard s.link every came (s ∷ ss) m
noted every keeps s came ss l m same every_is stands is h =
    let K : List Seen → Type 0 = λ x. StandsFor s.link x m.repeats in
    record {
      every_is = every_is ∙ h.every_is;
      hears = subst (Stands (bits_of came)) (sym same) h.hears;
      recalls = subst K (sym (kept_is every keeps s ss is)) (stands (kept every ss) h.recalls);
    }

-- one more record
behind_others : (s : Seen) (ks : List Seen) → flat_map record_of (reverse (s ∷ ks)) ≡ flat_map record_of (reverse ks) ++ record_of s
behind_others s ks =
    ap (flat_map record_of) (reverse-append (s ∷ []) ks)
    ∙ flat_map-append record_of (reverse ks) (s ∷ [])
    ∙ ap (λ (l : List ℕ). flat_map record_of (reverse ks) ++ l) (append-nil (record_of s))

recorded_more : (every : Bool) (s : Seen) (ss : List Seen) (begun old new : Option (List ℕ)) → kept every (s ∷ ss) ≡ s ∷ kept every ss
    → Appends begun old (capture_of every ss) → Appends old new (record_of s) → Appends begun new (capture_of every (s ∷ ss))
recorded_more every s ss begun old new more before grew =
    let P : List ℕ → Type 0 = λ l. Appends begun new l in
    let is : capture_of every (s ∷ ss) ≡ capture_of every ss ++ record_of s =
    ap (λ (h : List Seen). HEADER ++ flat_map record_of (reverse h)) more
    ∙ ap (λ (l : List ℕ). HEADER ++ l) (behind_others s (kept every ss))
    ∙ sym (append_assoc HEADER (flat_map record_of (reverse (kept every ss))) (record_of s)) in
    subst P (sym is) (Appends-trans begun old new (capture_of every ss) (record_of s) before grew)

unrecorded_more : (every : Bool) (s : Seen) (ss : List Seen) (begun old : Option (List ℕ)) → kept every (s ∷ ss) ≡ kept every ss
    → Appends begun old (capture_of every ss) → Appends begun old (capture_of every (s ∷ ss))
unrecorded_more every s ss begun old same before =
    let P : List Seen → Type 0 = λ h. Appends begun old (HEADER ++ flat_map record_of (reverse h)) in
    subst P (sym same) before

-- the unit differs from the last ones, and is recorded
pub saw_news : (every keeps : Bool) (s : Seen) (came : List ℕ) (ss : List Seen) (begun old new : Option (List ℕ)) (l m : LinkSeen) (text : List ℕ) → keeps ≡ true → m.heard ≡ l.heard
    → m.repeats.every ≡ l.repeats.every → ((h : List Seen) → StandsFor s.link h l.repeats → keeps ≡ is_kept l.repeats.every h s)
    → ((h : List Seen) → StandsFor s.link h l.repeats → StandsFor s.link (with_kept keeps s h) m.repeats) → text ≡ record_of s
    → Appends old new text → IsCapturing s.link every came ss begun old l → IsCapturing s.link every came (s ∷ ss) begun new m
saw_news every keeps s came ss begun old new l m text recorded same every_is keeps_is stands is_record grew c =
    let A : List ℕ → Type 0 = λ bs. Appends old new bs in
    let is = decided every keeps s came ss begun old l c keeps_is in
    let more : kept every (s ∷ ss) ≡ s ∷ kept every ss = kept_is every keeps s ss is ∙ ap (λ (k : Bool). with_kept k s (kept every ss)) recorded in
    record { heard = noted every keeps s came ss l m same every_is stands is c.heard; written = recorded_more every s ss begun old new more c.written (subst A is_record grew) }

-- the unit repeats an earlier one, and isn't recorded
pub saw_repeat : (every keeps : Bool) (s : Seen) (came : List ℕ) (ss : List Seen) (begun old : Option (List ℕ)) (l m : LinkSeen) → keeps ≡ false → m.heard ≡ l.heard
    → m.repeats.every ≡ l.repeats.every → ((h : List Seen) → StandsFor s.link h l.repeats → keeps ≡ is_kept l.repeats.every h s)
    → ((h : List Seen) → StandsFor s.link h l.repeats → StandsFor s.link (with_kept keeps s h) m.repeats)
    → IsCapturing s.link every came ss begun old l → IsCapturing s.link every came (s ∷ ss) begun old m
saw_repeat every keeps s came ss begun old l m left_out same every_is keeps_is stands c =
    let is = decided every keeps s came ss begun old l c keeps_is in
    let more : kept every (s ∷ ss) ≡ kept every ss = kept_is every keeps s ss is ∙ ap (λ (k : Bool). with_kept k s (kept every ss)) left_out in
    record { heard = noted every keeps s came ss l m same every_is stands is c.heard; written = unrecorded_more every s ss begun old more c.written }

-- ---- octets received

-- one more octet was received, and nothing is recorded
pub heard_on : (link : ℕ) (every : Bool) (came more : List ℕ) (ss : List Seen) (begun old : Option (List ℕ)) (l m : LinkSeen) → Stands (bits_of more) m.heard
    → m.repeats ≡ l.repeats → IsCapturing link every came ss begun old l → IsCapturing link every more ss begun old m
heard_on link every came more ss begun old l m stands same c =
    record {
      heard = record {
        every_is = ap (λ r. r.every) same ∙ c.heard.every_is;
        hears = stands;
        recalls = subst (StandsFor link (kept every ss)) (sym same) c.heard.recalls;
      };
      written = c.written;
    }

pub hears_one : (link at octet : ℕ) (came : List ℕ) (found : Option (List ℕ)) (ss last : List Seen) → Ends came octet found → IsUnit false link at found ss last
    → Hears link at came (octet ∷ []) ss last
hears_one link at octet came found ss last ends is = one came [] octet found ss last last ends is (nothing (came ++ octet ∷ []) last)

-- one run of octets after another
hears_on : (link at : ℕ) (before xs ys : List ℕ) (ss mm last : List Seen) → Hears link at before xs ss mm → Hears link at (before ++ xs) ys mm last
    → Hears link at before (xs ++ ys) ss last
hears_on link at _ _ ys _ _ last (nothing before seen) step =
    let P : List ℕ → Type 0 = λ b. Hears link at b ys seen last in
    subst P (append-nil before) step
hears_on link at _ _ ys _ _ last (one before rest octet found seen mid end ends is more) step =
    let P : List ℕ → Type 0 = λ b. Hears link at b ys end last in
    one before (rest ++ ys) octet found seen mid last ends is
    (hears_on link at (before ++ octet ∷ []) rest ys mid end last more (subst P (sym (append_assoc before (octet ∷ []) rest)) step))

-- these octets were received so far
pub record HeardSoFar (link at : ℕ) (every : Bool) (came octets : List ℕ) (ss : List Seen) (begun new : Option (List ℕ)) (l : LinkSeen) : Type 0 where
  pub last : List Seen
  pub hears : Hears link at came octets ss last
  pub capturing : IsCapturing link every (came ++ octets) last begun new l

pub none_heard : (link at : ℕ) (every : Bool) (came : List ℕ) (ss : List Seen) (begun old : Option (List ℕ)) (l : LinkSeen) → IsCapturing link every came ss begun old l
    → HeardSoFar link at every came [] ss begun old l
none_heard link at every came ss begun old l c =
    let P : List ℕ → Type 0 = λ x. IsCapturing link every x ss begun old l in
    record { last = ss; hears = nothing came ss; capturing = subst P (sym (append-nil came)) c }

-- and these octets after them
pub more_heard : (link at : ℕ) (every : Bool) (came xs ys : List ℕ) (ss : List Seen) (begun mid new : Option (List ℕ)) (l m : LinkSeen)
    → HeardSoFar link at every came xs ss begun mid l
    → ((seen : List Seen) → IsCapturing link every (came ++ xs) seen begun mid l → (last : List Seen) × Hears link at (came ++ xs) ys seen last
    × IsCapturing link every ((came ++ xs) ++ ys) last begun new m) → HeardSoFar link at every came (xs ++ ys) ss begun new m
more_heard link at every came xs ys ss begun mid new l m so_far step =
    let s = step so_far.last so_far.capturing in
    let P : List ℕ → Type 0 = λ x. IsCapturing link every x s.0 begun new m in
    record {
      last = s.0;
      hears = hears_on link at came xs ys ss so_far.last s.0 so_far.hears s.1;
      capturing = subst P (append_assoc came xs ys) s.2;
    }

pub one_more_heard : (link at : ℕ) (every : Bool) (came octets : List ℕ) (i : ℕ) (ss : List Seen) (begun new : Option (List ℕ)) (l : LinkSeen) → i < length octets
    → HeardSoFar link at every came (take i octets ++ get_or octets i 0 ∷ []) ss begun new l → HeardSoFar link at every came (take (i + 1) octets) ss begun new l
one_more_heard link at every came octets i ss begun new l within so_far =
    let P : List ℕ → Type 0 = λ xs. HeardSoFar link at every came xs ss begun new l in
    subst P (sym (take_more octets i 0 within)) so_far

-- the repetition, with one more copy of the octets
repeated_more : (n : ℕ) (octets : List ℕ) → repeated n octets ++ octets ≡ repeated (suc n) octets
repeated_more zero octets = sym (append-nil octets)
repeated_more (suc n) octets = append_assoc octets (repeated n octets) octets ∙ ap (λ (l : List ℕ). octets ++ l) (repeated_more n octets)

pub once_more : (link at : ℕ) (every : Bool) (came octets : List ℕ) (n : ℕ) (ss : List Seen) (begun new : Option (List ℕ)) (l : LinkSeen)
    → HeardSoFar link at every came (repeated n octets ++ octets) ss begun new l → HeardSoFar link at every came (repeated (n + 1) octets) ss begun new l
once_more link at every came octets n ss begun new l so_far =
    let P : List ℕ → Type 0 = λ xs. HeardSoFar link at every came xs ss begun new l in
    let next : suc n ≡ n + 1 = omega arith in
    subst P (repeated_more n octets ∙ ap (λ (k : ℕ). repeated k octets) next) so_far
