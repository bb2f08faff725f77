-- The printed form of the parser's faults.
use Rattle.std.specs.Prelude.{ℕ, List, codes}
use Rattle.sdl_tree.specs.declared.fault.ParseFault.{ParseFault}
use Rattle.sdl_tree.specs.declared.fault.ParseFault.TheVariants.{Unexpected, TooDeep, NoMemory}

-- the code and the name of a fault
abbrev pub fault_text : ParseFault → List ℕ
fault_text (Unexpected index) = codes "P1 Unexpected"
fault_text (TooDeep place) = codes "P2 TooDeep"
fault_text NoMemory = codes "out of memory"
