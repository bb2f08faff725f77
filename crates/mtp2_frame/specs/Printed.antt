-- The output of `frame`.
use Rattle.std.specs.Prelude.{ℕ, List, ◌++◌, Option, codes}
use Rattle.std.specs.Fmt.{decimal}
use Rattle.std.specs.Io.KnownBytes.{Appends}
use Rattle.su_octets.specs.Printed.{unit_text, fault_text}
use Rattle.su_octets.specs.declared.units.Unit.{Unit}
use Rattle.plain_text.specs.Lines.{line_of}
use Rattle.mtp2_frame.specs.Reading.{IsReading, IsRefused}
use Rattle.mtp2_frame.specs.declared.command.FrameFault.{FrameFault}
use Rattle.mtp2_frame.specs.declared.command.FrameFault.TheVariants.{NotHex, Unit as NoUnit}

-- the code and name of a fault
abbrev pub frame_fault_text : FrameFault → List ℕ
frame_fault_text NotHex = codes "H1 NotHex"
frame_fault_text (NoUnit fault) = fault_text fault

-- the number of a signal unit's bits on the line
abbrev pub bits_text : ℕ → List ℕ
bits_text line_bits = codes "bits " ++ decimal line_bits

-- a line with the signal unit's fields, and a line with the number of its bits
abbrev pub reading_lines : Unit → ℕ → List ℕ
reading_lines unit line_bits = line_of (unit_text unit) ++ line_of (bits_text line_bits)

abbrev pub fault_line : FrameFault → List ℕ
fault_line fault = line_of (codes "refused " ++ frame_fault_text fault)

-- the lines of a signal unit that the word spells are written, and nothing else
pub record PrintsUnit (old new : Option (List ℕ)) (word : List ℕ) : Type 0 where
  pub unit : Unit
  pub line_bits : ℕ
  pub is_so : IsReading word unit line_bits
  pub printed : Appends old new (reading_lines unit line_bits)

-- the line of a fault that the word has is written, and nothing else
pub record PrintsFault (old new : Option (List ℕ)) (word : List ℕ) : Type 0 where
  pub fault : FrameFault
  pub is_so : IsRefused word fault
  pub printed : Appends old new (fault_line fault)
