-- How the refusal of a text is printed.
use Rattle.std.specs.Prelude.{ℕ, List, [], ◌++◌, Option, None, Some, codes}
use Rattle.std.specs.Fmt.{decimal}
use Rattle.sdl_lex.specs.Printed as lexis
use Rattle.sdl_tree.specs.Printed as parser
use Rattle.sdl_sound.specs.Printed as rules
use Rattle.turn_verify.specs.declared.loading.LoadFault.{LoadFault}
use Rattle.turn_verify.specs.declared.loading.LoadFault.TheVariants.{Lex, Parse, Rule, NoMemory}

-- The line of a fault.
abbrev pub line_text : ℕ → List ℕ
line_text line = codes " line " ++ decimal line

-- The line of a fault, if it has one.
abbrev pub place_text : Option ℕ → List ℕ
place_text None = []
place_text (Some line) = line_text line

-- The fault, and then its line.
abbrev pub fault_text : LoadFault → List ℕ
fault_text (Lex fault line) = lexis.fault_text fault ++ line_text line
fault_text (Parse fault line) = parser.fault_text fault ++ line_text line
fault_text (Rule fault line) = rules.fault_text fault ++ place_text line
fault_text NoMemory = codes "out of memory"
