-- The invariant of a terminal: its deframer matches the line so far.
use Rattle.std.specs.Prelude.{Bool, List}
use Rattle.bit_line.specs.Deframing.{Stands}
use Rattle.bit_line.specs.declared.deframer.Deframer.{Deframer}

abbrev pub IsTerminal : Deframer → Type 0
IsTerminal d = (bits : List Bool) × Stands bits d
