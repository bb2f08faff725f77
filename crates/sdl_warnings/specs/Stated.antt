-- The statements of a process: those of START, of its INPUTs and of its connections, even if
-- nothing leads to them.
use Rattle.std.specs.Prelude.{List, ◌++◌}
use Rattle.std.specs.List.{flat_map}
use Rattle.sdl_ast.specs.Plain.{PlainProcess}
use Rattle.sdl_sound.specs.Statements.{Statement, statements_of}
use Rattle.sdl_tables.specs.Names.{input_parts}

abbrev pub process_statements : PlainProcess → List Statement
process_statements p =
    statements_of p.start.text
    ++ (flat_map (λ i. statements_of i.text) (input_parts p)
    ++ flat_map (λ c. statements_of c.text) p.connections)
