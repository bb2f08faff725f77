-- The counter and the mode.
use Rattle.std.proofs.Common.{◌≡◌, ℕ, ◌+◌, ◌%◌, Bool, true, false, cond, Option, Some, None, [], ◌∷◌, ◌++◌, refl, sym, ap, ◌∙◌, arith, inl, inr, subst}
use Rattle.std.specs.Prelude.{◌⊎◌, ◌==◌, ◌≢◌, is_none}
use Rattle.std.proofs.lemmas.Bool.Decides.{eqb_tells}
use Rattle.std.proofs.lemmas.List.{append-nil}
use Rattle.bit_line.specs.Events.{mode_after, reports, sixteens, Wrong, Nothing}
use Rattle.bit_line.specs.Counting.{Counts, sixteen_of}
use Rattle.bit_line.specs.Judging.{verdict_of, reports_of}
use Rattle.bit_line.specs.declared.content.Content.{Content}
use Rattle.bit_line.specs.declared.content.Closed.{Closed}
use Rattle.bit_line.specs.declared.content.Closed.TheVariants as closed
use Rattle.bit_line.specs.declared.events.LineEvent.TheVariants as events
use Rattle.std.proofs.lemmas.Option.{same_Some as same_some}

full_by : (n : ℕ) → n % 128 ≡ 0 → ((n % 128 == 0) ≡ true) × (n % 128 ≡ 0) ⊎ ((n % 128 == 0) ≡ false) × (n % 128 ≢ 0) → sixteens n ≡ events.SixteenOctets ∷ []
unfolding sixteens
full_by n full (inl t) = ap (λ b. cond b (events.SixteenOctets ∷ []) []) t.0
full_by n full (inr t) = absurd (t.1 full)

pub sixteens-full : (n : ℕ) → n % 128 ≡ 0 → sixteens n ≡ events.SixteenOctets ∷ []
sixteens-full n full = full_by n full (eqb_tells (n % 128) 0)

none_by : (n : ℕ) → n % 128 ≢ 0 → ((n % 128 == 0) ≡ true) × (n % 128 ≡ 0) ⊎ ((n % 128 == 0) ≡ false) × (n % 128 ≢ 0) → sixteens n ≡ []
unfolding sixteens
none_by n other (inl t) = absurd (other t.1)
none_by n other (inr t) = ap (λ b. cond b (events.SixteenOctets ∷ []) []) t.0

pub sixteens-none : (n : ℕ) → n % 128 ≢ 0 → sixteens n ≡ []
sixteens-none n other = none_by n other (eqb_tells (n % 128) 0)

pub tick-begins : (begins : Bool) (mode count : Option ℕ) → begins ≡ true → count ≡ None → Counts mode count → Counts (mode_after Nothing begins mode) (Some 0)
unfolding mode_after
tick-begins begins None count on none counts = let P : Bool → Type 0 = λ b. Counts (mode_after Nothing b None) (Some 0) in subst P (sym on) refl
tick-begins begins (Some n) count on none counts = absurd (let e : Some (n % 128) ≡ None = sym counts ∙ none in cc)

pub tick-idle : (begins : Bool) (mode count : Option ℕ) → begins ≡ false → count ≡ None → Counts mode count → Counts (mode_after Nothing begins mode) count
unfolding mode_after
tick-idle begins None count on none counts = let P : Bool → Type 0 = λ b. Counts (mode_after Nothing b None) count in subst P (sym on) counts
tick-idle begins (Some n) count on none counts = absurd (let e : Some (n % 128) ≡ None = sym counts ∙ none in cc)

pub tick-quiet : (mode count : Option ℕ) → count ≡ None → Counts mode count → [] ≡ reports Nothing mode
unfolding reports
tick-quiet None count none counts = refl
tick-quiet (Some n) count none counts = absurd (let e : Some (n % 128) ≡ None = sym counts ∙ none in cc)

pub tick-more : (begins : Bool) (mode count : Option ℕ) (k : ℕ) → count ≡ Some k → k ≢ 127 → Counts mode count → Counts (mode_after Nothing begins mode) (Some (k + 1))
unfolding mode_after
tick-more begins None count k some other counts = absurd (let e : None ≡ Some k = sym counts ∙ some in cc)
tick-more begins (Some n) count k some other counts =
    let is : n % 128 ≡ k = same_some (n % 128) k (sym counts ∙ some) in
    let more : k + 1 ≡ (n + 1) % 128 = omega (arith, other) in
    ap Some more

pub tick-more_quiet : (mode count : Option ℕ) (k : ℕ) → count ≡ Some k → k ≢ 127 → Counts mode count → [] ≡ reports Nothing mode
unfolding reports
tick-more_quiet None count k some other counts = refl
tick-more_quiet (Some n) count k some other counts =
    let is : n % 128 ≡ k = same_some (n % 128) k (sym counts ∙ some) in
    sym (sixteens-none (n + 1) (λ full. omega (arith, other, full)))

pub tick-wraps : (begins : Bool) (mode count : Option ℕ) → count ≡ Some 127 → Counts mode count → Counts (mode_after Nothing begins mode) (Some 0)
unfolding mode_after
tick-wraps begins None count some counts = absurd (let e : None ≡ Some 127 = sym counts ∙ some in cc)
tick-wraps begins (Some n) count some counts =
    let is : n % 128 ≡ 127 = same_some (n % 128) 127 (sym counts ∙ some) in
    let full : 0 ≡ (n + 1) % 128 = omega arith in
    ap Some full

pub tick-full : (mode count : Option ℕ) → count ≡ Some 127 → Counts mode count → events.SixteenOctets ∷ [] ≡ reports Nothing mode
unfolding reports
tick-full None count some counts = absurd (let e : None ≡ Some 127 = sym counts ∙ some in cc)
tick-full (Some n) count some counts =
    let is : n % 128 ≡ 127 = same_some (n % 128) 127 (sym counts ∙ some) in
    sym (sixteens-full (n + 1) (omega arith))

-- ---- the reports when a flag closes a content
pub close-correct : (content : Content) (mode : Option ℕ) (s : Bool) → sixteen_of s ≡ reports Nothing mode
    → reports_of (record { sixteen = s; closed = closed.Correct }) content ≡ reports (verdict_of closed.Correct content) mode
unfolding reports
close-correct content None s same = ap (λ l. l ++ events.Unit (record { items = content.data_bits.octets.items }) ∷ []) same
close-correct content (Some n) s same = ap (λ l. l ++ events.Unit (record { items = content.data_bits.octets.items }) ∷ []) same

pub close-normal : (content : Content) (mode count : Option ℕ) (s : Bool) → count ≡ None → Counts mode count → sixteen_of s ≡ reports Nothing mode
    → reports_of (record { sixteen = s; closed = closed.Wrong }) content ≡ reports Wrong mode
unfolding reports
close-normal content None count s none counts same = ap (λ l. l ++ events.Errored ∷ []) same
close-normal content (Some n) count s none counts same = absurd (let e : Some (n % 128) ≡ None = sym counts ∙ none in cc)

pub close-counting : (content : Content) (mode count : Option ℕ) (s : Bool) → (count ≡ None → ⊥) → Counts mode count → sixteen_of s ≡ reports Nothing mode
    → reports_of (record { sixteen = s; closed = closed.Nothing }) content ≡ reports Wrong mode
unfolding reports
close-counting content None count s some counts same = absurd (some counts)
close-counting content (Some n) count s some counts same = append-nil (sixteen_of s) ∙ same

-- the mode after a wrong content is that after no content
pub wrong-moves : (mode : Option ℕ) (b : Bool) → mode_after Wrong b mode ≡ mode_after Nothing b mode
unfolding mode_after
wrong-moves None b = refl
wrong-moves (Some n) b = refl

-- ---- the reports and the mode after a judgement that an equation states
none_when : (count : Option ℕ) → true ≡ is_none count → count ≡ None
none_when None is = refl
none_when (Some n) is = absurd (let e : true ≡ false = is in cc)

some_when : (count : Option ℕ) → false ≡ is_none count → count ≡ None → ⊥
some_when None is none = let e : false ≡ true = is in cc
some_when (Some n) is none = let e : Some n ≡ None = none in cc

pub closing-correct : (closing : Closed) (content : Content) (mode new : Option ℕ) → closing ≡ closed.Correct → new ≡ None → Counts (mode_after (verdict_of closing content) false mode) new
unfolding mode_after
closing-correct closing content mode new is none = let P : Closed → Type 0 = λ k. Counts (mode_after (verdict_of k content) false mode) new in subst P (sym is) none

pub closing-wrong : (closing : Closed) (content : Content) (mode new : Option ℕ) → closing ≡ closed.Wrong → Counts (mode_after Nothing false mode) new
    → Counts (mode_after (verdict_of closing content) false mode) new
closing-wrong closing content mode new is counts =
    let P : Closed → Type 0 = λ k. Counts (mode_after (verdict_of k content) false mode) new in
    let Q : Option ℕ → Type 0 = λ m. Counts m new in
    subst P (sym is) (subst Q (sym (wrong-moves mode false)) counts)

pub given-correct : (closing : Closed) (content : Content) (mode : Option ℕ) (s : Bool) → closing ≡ closed.Correct → sixteen_of s ≡ reports Nothing mode
    → reports_of (record { sixteen = s; closed = closing }) content ≡ reports (verdict_of closing content) mode
given-correct closing content mode s is same =
    let P : Closed → Type 0 = λ k. reports_of (record { sixteen = s; closed = k }) content ≡ reports (verdict_of k content) mode in
    subst P (sym is) (close-correct content mode s same)

pub given-normal : (closing : Closed) (content : Content) (mode count : Option ℕ) (s : Bool) → closing ≡ closed.Wrong → true ≡ is_none count → Counts mode count
    → sixteen_of s ≡ reports Nothing mode → reports_of (record { sixteen = s; closed = closing }) content ≡ reports (verdict_of closing content) mode
given-normal closing content mode count s is normal counts same =
    let P : Closed → Type 0 = λ k. reports_of (record { sixteen = s; closed = k }) content ≡ reports (verdict_of k content) mode in
    subst P (sym is) (close-normal content mode count s (none_when count normal) counts same)

pub given-counting : (closing : Closed) (content : Content) (mode count : Option ℕ) (s : Bool) → closing ≡ closed.Wrong → false ≡ is_none count → Counts mode count
    → sixteen_of s ≡ reports Nothing mode → reports_of (record { sixteen = s; closed = closed.Nothing }) content ≡ reports (verdict_of closing content) mode
given-counting closing content mode count s is normal counts same =
    let P : Closed → Type 0 = λ k. reports_of (record { sixteen = s; closed = closed.Nothing }) content ≡ reports (verdict_of k content) mode in
    subst P (sym is) (close-counting content mode count s (some_when count normal) counts same)
