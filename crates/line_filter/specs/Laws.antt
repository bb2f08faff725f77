-- Laws for all octets sent.
use Rattle.std.specs.Prelude.{◌≡◌, ℕ, ◌<◌, ◌≤◌, true, Bool, List, [], ◌∷◌, ◌++◌, replicate, Option}
use Rattle.std.specs.Prelude.{None, Some}
use Rattle.su_octets.specs.Bits.{bits_of}
use Rattle.bit_line.specs.Sending.{line_of}
use Rattle.bit_line.specs.Stuffers.{Gave}
use Rattle.line_filter.specs.Acts.{Act}
use Rattle.line_filter.specs.Reporting.{ToldLine}
use Rattle.line_filter.specs.Runs.{State, Runs, begins, octet}
use Rattle.line_filter.specs.Speaking.{Voice, Gives, fixed, fresh, silent}

-- The terminal's answers, the newest first: the octets of a unit, or none. Up to the last silence
-- these bits were sent, and these units after it. A silence completes its octet with 1s; after it
-- the line begins anew.
pub data IsSaid : List (Option (List ℕ)) → List Bool → List (List ℕ) → Type 0 where
  nothing : IsSaid [] [] []
  unit : {answers : List (Option (List ℕ))} {bits : List Bool} {frames : List (List ℕ)}
      (frame : List ℕ) → IsSaid answers bits frames
      → IsSaid (Some frame ∷ answers) bits (frames ++ frame ∷ [])
  silence : {answers : List (Option (List ℕ))} {bits : List Bool} {frames : List (List ℕ)}
      (ones : ℕ) → 0 < ones → ones ≤ 8 → IsSaid answers bits frames
      → IsSaid (None ∷ answers) (bits ++ (line_of frames ++ replicate ones true)) []

-- The answer that the next octet needs: none, the octets of the unit that the terminal returned, or
-- that it returned no unit.
abbrev pub answer_of :
    {T : Type 0} {acts : T → Act → T → Type 0} {t u : T} {v w : Voice} {gives : ℕ}
    → Gives acts t v gives u w → List (Option (List ℕ))
answer_of (fixed ready sending same) = []
answer_of (fresh x ready act stuffs) = Some stuffs.frame ∷ []
answer_of (silent ready act none fills) = None ∷ []

-- The terminal's answers along a run, the newest first.
abbrev pub answers_along :
    {T : Type 0} {acts : T → Act → T
    → Type 0} {count : ℕ} {s t : State T} {come out : List ℕ} {bytes : List ToldLine}
    {goes_on : Bool}
    → Runs acts count s come out bytes goes_on t → List (Option (List ℕ))
answers_along begins = []
answers_along (octet comes gives more goes last rest steps) =
    answer_of steps.exchanges.out ++ answers_along rest

-- The octets sent and those that are ready are the complete octets of the units in these answers.
pub record Speaks (answers : List (Option (List ℕ))) (out : List ℕ) (v : Voice) : Type 0 where
  pub bits : List Bool
  pub frames : List (List ℕ)
  pub said : IsSaid answers bits frames
  pub before : List ℕ
  pub since : List ℕ
  pub parts : out ++ v.ready ≡ before ++ since
  pub bits_before : bits_of before ≡ bits
  pub gave : Gave since frames v.sending
