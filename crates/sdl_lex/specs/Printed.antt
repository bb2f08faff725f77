-- The printed form of the lexer's faults.
use Rattle.std.specs.Prelude.{ℕ, List, codes}
use Rattle.sdl_lex.specs.declared.lexemes.LexFault.{LexFault}
use Rattle.sdl_lex.specs.declared.lexemes.LexFault.TheVariants.{BadCharacter, OpenComment, TooLong}
use Rattle.sdl_lex.specs.declared.lexemes.LexFault.TheVariants.{NoMemory}

-- the code and the name of a fault
abbrev pub fault_text : LexFault → List ℕ
fault_text (BadCharacter place) = codes "L1 BadCharacter"
fault_text (OpenComment place) = codes "L2 OpenComment"
fault_text (TooLong place) = codes "L3 TooLong"
fault_text NoMemory = codes "out of memory"
