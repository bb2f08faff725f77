-- A terminal that runs the processes of a text.
use Rattle.std.specs.Prelude.{◌≡◌, ℕ, List, ◌++◌, Option, None, Some}
use Rattle.std.specs.Io.KnownBytes.{Appends}
use Rattle.script_links.specs.resend_store_types.messages.Mode.{Mode}
use Rattle.script_links.specs.resend_store_types.messages.RoundLimits.{RoundLimits}
use Rattle.script_ends.specs.Opening.{IsOverWithin}
use Rattle.script_ends.specs.Term.{Term}
use Rattle.script_check.specs.Checked.{IsFound, IsRefusal, IsRefusedAt}
use Rattle.script_check.specs.Printed.{limit_line, refusal_line}
use Rattle.script_check.specs.declared.sets.Refusal.{Refusal}
use Rattle.mtp2_text.specs.TextLimits.{limits_in, wrong_in}
use Rattle.script_check.specs.declared.sets.FoundSet.{FoundSet}
use Rattle.script_check.specs.declared.sets.SetFault.{SetFault}
use Rattle.mtp2_text.specs.declared.limits.LimitName.{LimitName}
use Rattle.line_play.specs.declared.link.opening.ChosenLimits.{ChosenLimits}
use Rattle.script_ends.specs.TermRuns.{LacksName}

-- the bytes are a text whose processes have all names that a terminal needs, and the terminal is
-- a new one that runs them, with the limits of forced retransmission that are chosen, else the
-- text's, else the usual ones
pub record IsNewOver (chosen : ChosenLimits) (mode : Mode) (t : Term) (bytes : List ℕ) :
    Type 0 where
  pub found : FoundSet
  pub is_set : IsFound bytes found
  pub limits : RoundLimits
  pub are_limits : limits_in mode found.limits chosen.messages chosen.octets ≡ Some limits
  pub over : IsOverWithin found.set limits mode t

-- the line of a refusal was written, and then the lines that point at the place
pub record IsRefusalTold (fault : SetFault) (pointed : List ℕ) (old new : Option (List ℕ)) :
    Type 0 where
  pub middle : Option (List ℕ)
  pub line : Appends old middle (refusal_line fault)
  pub lines : Appends middle new pointed

-- A text is refused, and that was written: the line of a fault of these bytes, and then the text's
-- name and the lines that point at the fault.
pub record IsTextRefused (name : List ℕ) (old new : Option (List ℕ)) (bytes : List ℕ) :
    Type 0 where
  pub refusal : Refusal
  pub judged : IsRefusal refusal.fault
  pub is_so : IsRefusedAt bytes refusal
  pub told : IsRefusalTold refusal.fault (name ++ refusal.pointed.items) old new

-- There is no such terminal: the text with this name is refused, a limit of it that applies is out
-- of its range, or, if none is, its processes lack a name. Only the lines of that were written.
pub data IsNoSet (name : List ℕ) (chosen : ChosenLimits) (mode : Mode) (old new : Option (List ℕ))
    (bytes : List ℕ) : Type 0 where
  by_fault : IsTextRefused name old new bytes → IsNoSet name chosen mode old new bytes
  by_limit : (found : FoundSet) (limit : LimitName) → IsFound bytes found
      → wrong_in mode found.limits chosen.messages chosen.octets ≡ Some limit
      → Appends old new (limit_line limit) → IsNoSet name chosen mode old new bytes
  by_name : (found : FoundSet) (limits : RoundLimits) → IsFound bytes found
      → limits_in mode found.limits chosen.messages chosen.octets ≡ Some limits
      → LacksName found.set old new → IsNoSet name chosen mode old new bytes
