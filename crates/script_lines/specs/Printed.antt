-- How the fault of a script is printed.
use Rattle.std.specs.Prelude.{ℕ, List, ◌++◌, codes}
use Rattle.std.specs.Fmt.{decimal}
use Rattle.script_lines.specs.declared.script.ScriptFault.{ScriptFault}
use Rattle.script_lines.specs.declared.script.ScriptFault.TheVariants.{BadLine, NoMemory}

abbrev pub script_fault_text : ScriptFault → List ℕ
script_fault_text (BadLine line) = codes "X1 BadLine line " ++ decimal line
script_fault_text NoMemory = codes "out of memory"
