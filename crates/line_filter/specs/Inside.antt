-- An invariant of every voice: the stuffed octets represent units.
use Rattle.std.specs.Prelude.{ℕ, List}
use Rattle.bit_line.specs.Stuffers.{Gave}
use Rattle.bit_line.specs.declared.stuffer.Stuffer.{Stuffer}

abbrev pub IsVoice : Stuffer → Type 0
IsVoice s = (given : List ℕ) × (sent : List (List ℕ)) × Gave given sent s
