-- One more octet in each direction, and the units recorded for it.
use Rattle.std.proofs.Common.{◌≡◌, ℕ, ◌+◌, ◌*◌, Bool, true, false, List, [], ◌∷◌, ◌++◌, length, map, reverse, take, drop, Option, Some, None, refl, sym, ap, ◌∙◌, subst, append_assoc, length-append, arith}
use Rattle.std.specs.List.{flat_map}
use Rattle.std.specs.Io.KnownBytes.{Appends}
use Rattle.std.proofs.KnownBytes.{Appends-trans}
use Rattle.std.proofs.lemmas.List.{reverse-append}
use Rattle.std.proofs.lemmas.Grind.{flat_map-append}
use Rattle.su_octets.specs.Bits.{bits_of}
use Rattle.bit_line.specs.Deframing.{Stands}
use Rattle.bit_line.specs.declared.deframer.Deframer.{Deframer}
use Rattle.line_streams.specs.declared.seen.Seen.{Seen}
use Rattle.line_streams.specs.declared.capture.Capture.{Capture}
use Rattle.line_streams.specs.declared.repeats.Repeats.{Repeats}
use Rattle.line_streams.proofs.Recalling.{kept_as}
use Rattle.line_streams.specs.Records.{HEADER, record_of}
use Rattle.line_streams.specs.Repeats.{kept, StandsFor}
use Rattle.line_streams.specs.Capturing.{Ends, OCTET, IsUnit, Sees, nothing, exchange, Captures, capture_of, listed}

timed : (at n : ℕ) → at ≡ OCTET * n → at + 125 ≡ OCTET * (n + 1)
timed at n is = omega (arith, is)

counted : (come : List ℕ) (octet : ℕ) → OCTET * (length come + 1) ≡ OCTET * length (come ++ octet ∷ [])
counted come octet = ap (λ n. OCTET * n) (sym (length-append come (octet ∷ [])))

-- A capture before the first octet.
pub first_captures : (c : Capture) → Stands [] c.gone → Stands [] c.come → c.at ≡ 0 → StandsFor c.link [] c.repeats → Captures [] [] [] c
unfolding bits_of
first_captures c out in_ at recalls = record { sees = nothing; out = out; in_ = in_; at = at; recalls = recalls }

-- A capture after one more exchange.
pub exchanged : (before after : List ℕ) (seen middle last : List Seen) (gone come : ℕ) (sent heard : Option (List ℕ)) (old new : Capture)
    → Captures before after seen old → Ends before gone sent → Stands (bits_of (before ++ gone ∷ [])) new.gone
    → Ends after come heard → Stands (bits_of (after ++ come ∷ [])) new.come → new.link ≡ old.link → new.at ≡ old.at + 125
    → IsUnit true old.link new.at sent seen middle → IsUnit false old.link new.at heard middle last
    → StandsFor old.link (kept new.repeats.every last) new.repeats → Captures (before ++ gone ∷ []) (after ++ come ∷ []) last new
exchanged before after seen middle last gone come sent heard old new captures out stands_out in_ stands_in link at first second recalls =
    let now : new.at ≡ OCTET * (length after + 1) = at ∙ timed old.at (length after) captures.at in
    let P : ℕ → Type 0 = λ n. IsUnit true old.link n sent seen middle in
    let Q : ℕ → Type 0 = λ n. IsUnit false old.link n heard middle last in
    let R : ℕ → Type 0 = λ l. Sees l (before ++ gone ∷ []) (after ++ come ∷ []) last in
    let S : ℕ → Type 0 = λ l. StandsFor l (kept new.repeats.every last) new.repeats in
    record {
      sees = subst R (sym link) (exchange gone come sent heard middle last captures.sees out (subst P now first) in_ (subst Q now second));
      out = stands_out;
      in_ = stands_in;
      at = now ∙ counted after come;
      recalls = subst S (sym link) recalls;
    }

-- ---- octets of the records

turned_round : (x : Option Seen) → reverse (listed x) ≡ listed x
turned_round None = refl
turned_round (Some s) = refl

in_order : (went came : Option Seen) (k : List Seen) → reverse (listed came ++ (listed went ++ k)) ≡ (reverse k ++ listed went) ++ listed came
in_order went came k =
    reverse-append (listed came) (listed went ++ k)
    ∙ ap (λ l. l ++ reverse (listed came)) (reverse-append (listed went) k ∙ ap (λ l. reverse k ++ l) (turned_round went))
    ∙ ap (λ l. (reverse k ++ listed went) ++ l) (turned_round came)

pub grown : (every : Bool) (seen more : List Seen) (went came : Option Seen) → kept every more ≡ listed came ++ (listed went ++ kept every seen)
    → capture_of every more ≡ capture_of every seen ++ (flat_map record_of (listed went) ++ flat_map record_of (listed came))
grown every seen more went came is =
    ap (λ h. HEADER ++ flat_map record_of (reverse h)) is
    ∙ ap (λ h. HEADER ++ flat_map record_of h) (in_order went came (kept every seen))
    ∙ ap (λ l. HEADER ++ l) (flat_map-append record_of (reverse (kept every seen) ++ listed went) (listed came)
    ∙ ap (λ l. l ++ flat_map record_of (listed came)) (flat_map-append record_of (reverse (kept every seen)) (listed went))
    ∙ append_assoc (flat_map record_of (reverse (kept every seen))) (flat_map record_of (listed went)) (flat_map record_of (listed came)))
    ∙ sym (append_assoc HEADER (flat_map record_of (reverse (kept every seen))) (flat_map record_of (listed went) ++ flat_map record_of (listed came)))

pub written : (before a b c : Option (List ℕ)) (every now : Bool) (seen more : List Seen) (went came : Option Seen) → now ≡ every
    → kept every more ≡ listed came ++ (listed went ++ kept every seen) → Appends before a (capture_of every seen)
    → Appends a b (flat_map record_of (listed went)) → Appends b c (flat_map record_of (listed came)) → Appends before c (capture_of now more)
written before a b c every now seen more went came same is first second third =
    let P : List ℕ → Type 0 = λ l. Appends before c l in
    subst P (sym (grown every seen more went came is) ∙ ap (λ e. capture_of e more) (sym same))
    (Appends-trans before a c (capture_of every seen) (flat_map record_of (listed went) ++ flat_map record_of (listed came)) first
    (Appends-trans a b c (flat_map record_of (listed went)) (flat_map record_of (listed came)) second third))

-- ---- an exchange, from its two directions

-- The recorded unit of one direction.
abbrev pub IsKeptBy : Capture → Bool → Option (List ℕ) → Option Seen → Repeats → Type 0
IsKeptBy c went unit result new =
    (seen : List Seen) → StandsFor c.link (kept c.repeats.every seen) c.repeats → (more : List Seen) × IsUnit went c.link c.at unit seen more
    × StandsFor c.link (kept c.repeats.every more) new × (kept c.repeats.every more ≡ listed result ++ kept c.repeats.every seen)

pub exchange_kept : (before after : List ℕ) (seen : List Seen) (gone come at : ℕ) (g h : Deframer) (sent heard : Option (List ℕ)) (went came : Option Seen)
    (old w new : Capture) → Captures before after seen old → Ends before gone sent → Stands (bits_of (before ++ gone ∷ [])) g → Ends after come heard
    → Stands (bits_of (after ++ come ∷ [])) h → at ≡ old.at + 125 → w ≡ record old { at = at; gone = g; come = h; repeats = w.repeats }
    → w.repeats.every ≡ old.repeats.every → new ≡ record w { repeats = new.repeats } → new.repeats.every ≡ w.repeats.every
    → IsKeptBy (record old { at = at; gone = g; come = h }) true sent went w.repeats → IsKeptBy w false heard came new.repeats
    → (more : List Seen) × Captures (before ++ gone ∷ []) (after ++ come ∷ []) more new
    × (kept old.repeats.every more ≡ listed came ++ (listed went ++ kept old.repeats.every seen))
exchange_kept before after seen gone come at g h sent heard went came old w new captures out stands_out in_ stands_in now same_w every_w same_new every_new keeps_went keeps_came =
    let w_link : w.link ≡ old.link = ap (λ (c : Capture). c.link) same_w in
    let w_at : w.at ≡ at = ap (λ (c : Capture). c.at) same_w in
    let new_link : new.link ≡ old.link = ap (λ (c : Capture). c.link) same_new ∙ w_link in
    let new_at : new.at ≡ at = ap (λ (c : Capture). c.at) same_new ∙ w_at in
    let new_gone : new.gone ≡ g = ap (λ (c : Capture). c.gone) same_new ∙ ap (λ (c : Capture). c.gone) same_w in
    let new_come : new.come ≡ h = ap (λ (c : Capture). c.come) same_new ∙ ap (λ (c : Capture). c.come) same_w in
    let first = keeps_went seen captures.recalls in
    let second = keeps_came first.0 (kept_as w.link old.link w.repeats.every old.repeats.every first.0 w.repeats w_link every_w first.2) in
    let G : Deframer → Type 0 = λ d. Stands (bits_of (before ++ gone ∷ [])) d in
    let H : Deframer → Type 0 = λ d. Stands (bits_of (after ++ come ∷ [])) d in
    let A : ℕ → Type 0 = λ n. IsUnit true old.link n sent seen first.0 in
    let B : ℕ → Type 0 = λ n. IsUnit false n w.at heard first.0 second.0 in
    let C : ℕ → Type 0 = λ n. IsUnit false old.link n heard first.0 second.0 in (
      second.0,
      exchanged before after seen first.0 second.0 gone come sent heard old new captures out (subst G (sym new_gone) stands_out) in_ (subst H (sym new_come) stands_in)
          new_link (new_at ∙ now) (subst A (sym new_at) first.1) (subst C (w_at ∙ sym new_at) (subst B w_link second.1))
          (kept_as old.link w.link new.repeats.every w.repeats.every second.0 new.repeats (sym w_link) every_new second.2),
      ap (λ e. kept e second.0) (sym every_w) ∙ second.3 ∙ ap (λ l. listed came ++ l) (ap (λ e. kept e first.0) every_w ∙ first.3),
    )
