use Rattle.std.proofs.Common.{◌≡◌, map, take}
use Rattle.sdl_tables.specs.Rows.{variable_of}
use Rattle.sdl_meaning.specs.Declarations.{drafted}
use Rattle.sdl_compile.proofs.variables.compile_variables.Given as goal

abbrev pub invariant-loop-row : goal.invariant-loop-row
invariant-loop-row l = l.variables.items ≡ map drafted (map variable_of (take l.row-index l.rows))
