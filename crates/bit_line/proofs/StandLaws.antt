-- One more bit, for the deframer as a whole.
use Rattle.std.proofs.Common.{◌≡◌, ℕ, ◌+◌, ◌*◌, ◌/◌, ◌%◌, Bool, true, false, cond, Option, Some, List, [], ◌∷◌, ◌++◌, length, refl, sym, ap, ◌∙◌, subst}
use Rattle.std.specs.Prelude.{nat_lt, ◌==◌}
use Rattle.std.specs.Bool.{MatchBool}
use Rattle.std.proofs.lemmas.List.{append-nil}
use Rattle.bit_line.specs.Stuffing.{taken_out}
use Rattle.bit_line.specs.Flags.{ends_flag, six_ones, inside, begins, MOST_BITS}
use Rattle.bit_line.specs.Events.{Verdict, Nothing, Closes, IsJudged, Runs, mode_after, reports}
use Rattle.bit_line.specs.Counting.{Counts, sixteen_of}
use Rattle.bit_line.specs.Judging.{verdict_of, reports_of}
use Rattle.bit_line.specs.Deframing.{LetsIn, Fits, StandsAt, Stands, seventh}
use Rattle.su_octets.specs.Bits.{low_bits}
use Rattle.bit_line.specs.declared.content.Content.{Content}
use Rattle.bit_line.specs.declared.content.Closed.{Closed}
use Rattle.bit_line.specs.declared.content.Closed.TheVariants as closed
use Rattle.bit_line.specs.declared.counter.Given.{Given}
use Rattle.bit_line.specs.declared.receiver.Receiver.{Receiver}
use Rattle.bit_line.specs.declared.events.LineEvent.{LineEvent}
use Rattle.bit_line.proofs.FlagLaws.{ends_flag-zero, ends_flag-one, ends_flag-plain, begins-seventh, begins-flag, begins-plain}
use Rattle.bit_line.proofs.Newest.{newest-next, newest-none, newest-flag, newest-seven, oldest, six_when, no_six_when}

pub stands_first : (d : Receiver) → d.recent ≡ 127 → LetsIn [] d.gate → d.counter.count ≡ Some 0 → Stands [] d
unfolding Stands StandsAt Runs
stands_first d recent gate count =
    ([], (Some 0, (refl, refl), record { recent = ap (λ n. low_bits 7 n) recent ∙ newest-none; gate = gate; counting = count }))

pub goes_on : (b : Bool) (h : List Bool) (mode : Option ℕ) (events given : List LineEvent) (verdict : Verdict) (new : Receiver) → Runs h mode events → Closes b h verdict
    → given ≡ reports verdict mode → Fits (b ∷ h) (mode_after verdict (begins (b ∷ h)) mode) new → StandsAt (b ∷ h) (events ++ given) new
unfolding StandsAt Runs
goes_on b h mode events given verdict new runs closes is fits = (
  mode_after verdict (begins (b ∷ h)) mode,
  (mode, events, runs, record { verdict = verdict; closes = closes; mode = refl; all = ap (λ l. events ++ l) is }),
  fits,
)

nothing_closes : (b : Bool) (h : List Bool) → ends_flag (b ∷ h) ≡ false → Closes b h Nothing
nothing_closes b h none = let P : Bool → Type 0 = λ e. MatchBool e (IsJudged (inside h) Nothing) (Nothing ≡ Nothing) in subst P (sym none) refl

pub flag_closes : (h : List Bool) (verdict : Verdict) → ends_flag (false ∷ h) ≡ true → IsJudged (inside h) verdict → Closes false h verdict
flag_closes h verdict ends judged = let P : Bool → Type 0 = λ e. MatchBool e (IsJudged (inside h) verdict) (verdict ≡ Nothing) in subst P (sym ends) judged

pub plain-stands : (b late over s : Bool) (h : List Bool) (events : List LineEvent) (content : Content) (old new : Receiver) → (old.recent ≡ 126 → ⊥)
    → new.recent ≡ old.recent / 2 + 64 * cond b 1 0 → late ≡ (old.recent % 2 == 1)
    → ((h2 : List Bool) (b2 : Bool) → ends_flag (b2 ∷ h2) ≡ false → late ≡ seventh h2 → LetsIn h2 old.gate → LetsIn (b2 ∷ h2) new.gate)
    → ((h2 : List Bool) → LetsIn h2 new.gate → over ≡ nat_lt MOST_BITS (length (taken_out (inside h2))))
    → ((mode : Option ℕ) → Counts mode old.counter.count → Counts (mode_after Nothing over mode) new.counter.count)
    → ((mode : Option ℕ) → Counts mode old.counter.count → sixteen_of s ≡ reports Nothing mode)
    → StandsAt h events old → StandsAt (b ∷ h) (events ++ reports_of (record { sixteen = s; closed = closed.Nothing }) content) new
unfolding StandsAt
plain-stands b late over s h events content old new other next is_late passes is_over counts full stands =
    let mode : Option ℕ = stands.0 in
    let fits : Fits h mode old = stands.2 in
    let no_six : six_ones h ≡ false = no_six_when old.recent h old.recent_fits fits.recent other in
    let none : ends_flag (b ∷ h) ≡ false = ends_flag-plain b h no_six in
    let gate : LetsIn (b ∷ h) new.gate = passes h b none (is_late ∙ oldest old.recent h fits.recent) fits.gate in
    let begin : over ≡ begins (b ∷ h) = is_over (b ∷ h) gate ∙ sym (begins-plain b h no_six) in
    let P : Bool → Type 0 = λ x. Counts (mode_after Nothing x mode) new.counter.count in
    goes_on b h mode events (reports_of (record { sixteen = s; closed = closed.Nothing }) content) Nothing new stands.1 (nothing_closes b h none)
    (append-nil (sixteen_of s) ∙ full mode fits.counting)
    (record {
      recent = ap (λ n. low_bits 7 n) next ∙ newest-next old.recent b h old.recent_fits fits.recent;
      gate = gate;
      counting = subst P begin (counts mode fits.counting);
    })

pub seventh-stands : (s : Bool) (h : List Bool) (events : List LineEvent) (content : Content) (old new : Receiver) → old.recent ≡ 126 → new.recent ≡ 127
    → ((h2 : List Bool) (b2 : Bool) → ends_flag (b2 ∷ h2) ≡ false → false ≡ seventh h2 → LetsIn h2 old.gate → LetsIn (b2 ∷ h2) new.gate)
    → ((mode : Option ℕ) → Counts mode old.counter.count → Counts (mode_after Nothing true mode) new.counter.count)
    → ((mode : Option ℕ) → Counts mode old.counter.count → sixteen_of s ≡ reports Nothing mode)
    → StandsAt h events old → StandsAt (true ∷ h) (events ++ reports_of (record { sixteen = s; closed = closed.Nothing }) content) new
unfolding StandsAt
seventh-stands s h events content old new was next passes counts full stands =
    let mode : Option ℕ = stands.0 in
    let fits : Fits h mode old = stands.2 in
    let six : six_ones h ≡ true = six_when old.recent h fits.recent was in
    let none : ends_flag (true ∷ h) ≡ false = ends_flag-one h in
    let P : Bool → Type 0 = λ x. Counts (mode_after Nothing x mode) new.counter.count in
    goes_on true h mode events (reports_of (record { sixteen = s; closed = closed.Nothing }) content) Nothing new stands.1 (nothing_closes true h none)
    (append-nil (sixteen_of s) ∙ full mode fits.counting)
    (record {
      recent = ap (λ n. low_bits 7 n) next ∙ newest-seven old.recent h fits.recent was;
      gate = passes h true none (sym (ap (λ n. n % 2 == 1) was) ∙ oldest old.recent h fits.recent) fits.gate;
      counting = subst P (sym (begins-seventh h six)) (counts mode fits.counting);
    })

pub flag-stands : (closing : Closed) (given : Given) (h : List Bool) (events : List LineEvent) (content : Content) (old new : Receiver) → old.recent ≡ 126 → new.recent ≡ 63
    → ((h2 : List Bool) → LetsIn h2 old.gate → IsJudged (inside h2) (verdict_of closing content))
    → ((h2 : List Bool) → ends_flag (false ∷ h2) ≡ true → LetsIn (false ∷ h2) new.gate)
    → ((mode : Option ℕ) (content2 : Content) → Counts mode old.counter.count → Counts (mode_after (verdict_of closing content2) false mode) new.counter.count)
    → ((mode : Option ℕ) (content2 : Content) → Counts mode old.counter.count → reports_of given content2 ≡ reports (verdict_of closing content2) mode)
    → StandsAt h events old → StandsAt (false ∷ h) (events ++ reports_of given content) new
unfolding StandsAt
flag-stands closing given h events content old new was next judged closes counts gives stands =
    let mode : Option ℕ = stands.0 in
    let fits : Fits h mode old = stands.2 in
    let six : six_ones h ≡ true = six_when old.recent h fits.recent was in
    let ends : ends_flag (false ∷ h) ≡ true = ends_flag-zero h ∙ six in
    let verdict : Verdict = verdict_of closing content in
    let P : Bool → Type 0 = λ x. Counts (mode_after verdict x mode) new.counter.count in
    goes_on false h mode events (reports_of given content) verdict new stands.1 (flag_closes h verdict ends (judged h fits.gate))
    (gives mode content fits.counting)
    (record {
      recent = ap (λ n. low_bits 7 n) next ∙ newest-flag old.recent h fits.recent was;
      gate = closes h ends;
      counting = subst P (sym (begins-flag h six)) (counts mode content fits.counting);
    })
