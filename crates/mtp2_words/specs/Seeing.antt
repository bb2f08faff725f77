-- The words that request views of a run.
use Rattle.std.specs.Prelude.{◌≡◌, ◌≤◌, ◌==◌, ℕ, Bool, true, false, List, ◌∷◌, [], Option, Some}
use Rattle.std.specs.Prelude.{None, option_map, is_some, count_by}
use Rattle.std.specs.List.{before_first, after_first}
use Rattle.script_links.specs.Numbers.{count_of}
use Rattle.mtp2_words.specs.declared.seeing.Seeing.{Seeing}
use Rattle.mtp2_words.specs.declared.seeing.SeeingWords.{SeeingWords}
use Rattle.mtp2_words.specs.declared.seeing.Sight.{Sight}
use Rattle.mtp2_words.specs.declared.seeing.Sight.TheVariants.{Trace, Chart, Coverage, Thrown}
use Rattle.mtp2_words.specs.declared.seeing.Sight.TheVariants.{Capture}
use Rattle.mtp2_words.specs.declared.seeing.Turns.{Turns}

-- the view that goes to a file
abbrev pub IsSight : SeeingWords → Option Sight → Type 0
IsSight w None =
    (w.trace ≡ None) × (w.chart ≡ None) × (w.coverage ≡ None) × (w.thrown ≡ None)
    × (w.capture ≡ None)
IsSight w (Some (Trace path)) = option_map (λ x. x.now) w.trace ≡ Some path.now
IsSight w (Some (Chart path)) = option_map (λ x. x.now) w.chart ≡ Some path.now
IsSight w (Some (Coverage path)) = option_map (λ x. x.now) w.coverage ≡ Some path.now
IsSight w (Some (Thrown path)) = option_map (λ x. x.now) w.thrown ≡ Some path.now
IsSight w (Some (Capture path)) = option_map (λ x. x.now) w.capture ≡ Some path.now

-- a view other than a trace or a chart: coverage, discarded items or a capture
abbrev pub IsLaterSight : SeeingWords → Option Sight → Type 0
IsLaterSight w None = (w.coverage ≡ None) × (w.thrown ≡ None) × (w.capture ≡ None)
IsLaterSight w (Some sight) = IsSight w (Some sight)

-- the number of views requested; only one is allowed
abbrev pub asked_of : SeeingWords → ℕ
asked_of w =
    count_by (λ b. b)
    (w.echo ∷ is_some w.trace ∷ is_some w.chart ∷ is_some w.coverage ∷ is_some w.thrown
    ∷ is_some w.capture ∷ [])

-- ---- turns

-- the turns with numbers from the first to the last
abbrev pub both_turns : Option ℕ → Option ℕ → Option Turns
both_turns None n = None
both_turns (Some m) None = None
both_turns (Some m) (Some n) = Some (record { first = m; last = n })

abbrev pub number_behind : Bool → List ℕ → Option ℕ
number_behind true bs = count_of bs
number_behind false bs = None

-- the number after a second dot
abbrev pub behind_dot : List ℕ → Option ℕ
behind_dot [] = None
behind_dot (b ∷ bs) = number_behind (b == 46) bs

-- two numbers separated by two dots: one before the first dot, one after the second, which directly
-- follows it
abbrev pub turns_of : List ℕ → Option Turns
turns_of word =
    both_turns (count_of (before_first (λ b. b == 46) word))
    (behind_dot (after_first (λ b. b == 46) word))

-- the turns of a word; if there is none, all, as many as 64 bits can count
abbrev pub turns_said : Option (List ℕ) → Option Turns
turns_said None = Some (record { first = 0; last = 18446744073709551615 })
turns_said (Some word) = turns_of word

-- ---- the views

-- the view that the words request: at most one is requested, and turns belong to a chart
pub record IsSeenBy (w : SeeingWords) (seen : Seeing) : Type 0 where
  pub echo : seen.echo ≡ w.echo
  pub sight : IsSight w seen.sight
  pub every : seen.every ≡ w.every
  pub turns : turns_said (option_map (λ x. x.now) w.turns) ≡ Some seen.turns
  pub one : asked_of w ≤ 1
  pub of_chart : is_some w.turns ≡ true → is_some w.chart ≡ true

-- the words are invalid
pub data IsNoSeeing (w : SeeingWords) : Type 0 where
  several : 2 ≤ asked_of w → IsNoSeeing w
  no_chart : is_some w.turns ≡ true → is_some w.chart ≡ false → IsNoSeeing w
  no_turns : turns_said (option_map (λ x. x.now) w.turns) ≡ None → IsNoSeeing w
