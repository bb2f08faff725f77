-- The octets sent on the line.
use Rattle.std.specs.Prelude.{◌≡◌, ℕ, ◌<◌, ◌≤◌, zero, suc, true, List, [], ◌∷◌, ◌++◌}
use Rattle.std.specs.Option.{option_to_list}
use Rattle.su_octets.specs.Frame.{Frame, SpareBitsAreZero}
use Rattle.su_octets.specs.declared.units.Unit as units
use Rattle.bit_line.specs.Stuffers.{Gave}
use Rattle.bit_line.specs.declared.stuffer.Stuffer.{Stuffer}
use Rattle.link_processes.specs.declared.processes.Processes.{Processes}
use Rattle.link_processes.specs.Machine.{sent, tidied, is_low}
use Rattle.link_term.specs.Term.{Term}

-- the octets of units, with spare bits 0
abbrev pub AreFrames : List (List ℕ) → List units.Unit → Type 0
AreFrames [] [] = Unit {0}
AreFrames [] (u ∷ us) = ⊥
AreFrames (octets ∷ frames) [] = ⊥
AreFrames (octets ∷ frames) (u ∷ us) =
    (Frame octets u × SpareBitsAreZero octets) × AreFrames frames us

-- the stuffed units were appended to the line octets
pub record Speaks (old : Stuffer) (before : List ℕ) (us : List units.Unit) (new : Stuffer)
    (after : List ℕ) : Type 0 where
  pub frames : List (List ℕ)
  pub are : AreFrames frames us
  pub more : List ℕ
  pub behind : after ≡ before ++ more
  pub gave : (given : List ℕ) (sent : List (List ℕ)) → Gave given sent old
      → Gave (given ++ more) (sent ++ frames) new

-- the units that a terminal sends, if requested so often
abbrev pub given : ℕ → Processes → List units.Unit
given zero t = []
given (suc k) t = option_to_list (sent (tidied t)).unit ++ given k (sent (tidied t)).processes

abbrev pub left : ℕ → Processes → Processes
left zero t = t
left (suc k) t = left k (sent (tidied t)).processes

-- so many units were sent
pub record Spoke (old : Term) (before : List ℕ) (n : ℕ) (new : Term) (after : List ℕ) : Type 0 where
  pub processes : new.processes ≡ left n old.processes
  pub line : new.line ≡ old.line
  pub speaks : Speaks old.sending before (given n old.processes) new.sending after

-- So many units were requested and sent. There may be fewer if the journal lacks room, but at least
-- one.
pub record IsSpoken (old : Term) (asked : ℕ) (new : Term) (octets : List ℕ) : Type 0 where
  pub count : ℕ
  pub most : count ≤ asked
  pub first : 0 < asked → 0 < count
  pub fewer : count < asked → is_low new.processes ≡ true
  pub spoke : Spoke old [] count new octets
