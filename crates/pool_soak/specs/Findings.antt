-- The output of `soak`.
use Rattle.std.specs.Prelude.{◌≡◌, ◌⊎◌, ℕ, Bool, true, false, List, ◌++◌, Option, Ok, Err, IsUtf8}
use Rattle.std.specs.Prelude.{codes}
use Rattle.std.specs.Io.KnownBytes.{Appends}
use Rattle.script_lines.specs.Printed.{script_fault_text}
use Rattle.script_lines.specs.declared.script.ScriptFault.{ScriptFault}
use Rattle.script_lines.specs.declared.script.ScriptFault.TheVariants.{BadLine, NoMemory}
use Rattle.script_check.specs.Printed.{line_of}
use Rattle.pool_soak.specs.Scripts.{PlainSoak, soak_of}
use Rattle.pool_soak.specs.FindingLines.{finding_text, seats_finding, audit_finding}

-- two lines: whether the seats agree, and whether the receipts hold
abbrev pub lines_with : Bool → Bool → List ℕ
lines_with agree stand =
    line_of (finding_text (seats_finding agree)) ++ line_of (finding_text (audit_finding stand))

-- ---- a script that ran

-- the bytes are a script, and both lines say yes
pub record IsSoaked (old new : Option (List ℕ)) (bytes : List ℕ) : Type 0 where
  pub utf8 : IsUtf8 bytes
  pub script : PlainSoak
  pub reads : soak_of bytes ≡ Ok script
  pub printed : Appends old new (lines_with true true)

-- The bytes are a script, and the second line says no. The first line never does: the counts always
-- match the journals.
pub record IsSoakedInVain (old new : Option (List ℕ)) (bytes : List ℕ) : Type 0 where
  pub utf8 : IsUtf8 bytes
  pub script : PlainSoak
  pub reads : soak_of bytes ≡ Ok script
  pub printed : Appends old new (lines_with true false)

-- ---- a script that was refused

-- the line of a fault is written; running out of memory has no line
abbrev pub PrintsFault : Option (List ℕ) → Option (List ℕ) → ScriptFault → Type 0
PrintsFault old new (BadLine line) =
    Appends old new (line_of (codes "refused " ++ script_fault_text (BadLine line)))
PrintsFault old new NoMemory = ⊥

-- the bytes are no text, and the line about that was written
pub record IsNoText (old new : Option (List ℕ)) (bytes : List ℕ) : Type 0 where
  pub no_text : IsUtf8 bytes → ⊥
  pub printed : Appends old new (line_of (codes "refused F1 NotText"))

-- the bytes are a text, and the line about the first bad line was written
pub record HasBadLine (old new : Option (List ℕ)) (bytes : List ℕ) : Type 0 where
  pub utf8 : IsUtf8 bytes
  pub line : ℕ
  pub reads : soak_of bytes ≡ Err line
  pub printed : PrintsFault old new (BadLine line)

abbrev pub IsTurnedDown : Option (List ℕ) → Option (List ℕ) → List ℕ → Type 0
IsTurnedDown old new bytes = IsNoText old new bytes ⊎ HasBadLine old new bytes

-- ---- each exit status, by the bytes of the script and the text written

pub record IsEnd (status : ℕ) (old new : Option (List ℕ)) (bytes : List ℕ) : Type 0 where
  pub held : status ≡ 0 → IsSoaked old new bytes
  pub differs : status ≡ 1 → IsSoakedInVain old new bytes
  pub refused : status ≡ 2 → IsTurnedDown old new bytes
