-- The views of the rows of tables.
use Rattle.std.specs.Prelude.{ℕ, List, [], map, slice_get}
use Rattle.std.specs.Global.{Vec}
use Rattle.std.specs.List.{flat_map}
use Rattle.std.specs.Option.{option_map_or}
use Rattle.sdl_ast.specs.declared.expression.Identifier.{Identifier}
use Rattle.sdl_ast.specs.Plain.{PlainInput, PlainClause, input, PlainState}
use Rattle.sdl_ast.specs.Views.{stimulus_of, text_of}
use Rattle.sdl_tables.specs.Names as names
use Rattle.sdl_tables.specs.declared.process_table.Variable as row
use Rattle.sdl_tables.specs.declared.process_table.InputRow.{InputRow}
use Rattle.sdl_tables.specs.declared.state_names.Which.{Which}
use Rattle.sdl_tables.specs.declared.state_names.Which.TheVariants.{Saves, Triggers}

abbrev pub variable_of : row.Variable → names.Variable
variable_of v = record { name = v.name; sort = v.sort; initial = v.initial }

abbrev pub row_input : InputRow → names.Input
row_input r =
    record {
      at = r.input.now.at;
      stimulus = stimulus_of r.stimulus.now;
      text = text_of r.input.now.transition;
    }

abbrev pub rows_inputs : Vec InputRow → List names.Input
rows_inputs v = map row_input v.items

-- the inputs of one INPUT
abbrev pub stimulus_inputs : PlainInput → List names.Input
stimulus_inputs i = names.clause_inputs (input i)

-- The items of state s in a table, given the view of a row. A state past the end has none.
abbrev pub row_at : {R X : Type 0} → (R → List X) → List R → ℕ → List X
row_at read rows s = option_map_or read (slice_get rows s) []

-- the inputs of state s
abbrev pub rows_at : List (Vec InputRow) → ℕ → List names.Input
rows_at states s = row_at rows_inputs states s

abbrev pub row_names : Vec Identifier → List Identifier
row_names v = v.items

-- the names of state s
abbrev pub names_at : List (Vec Identifier) → ℕ → List Identifier
names_at states s = row_at row_names states s

-- the names of a clause, and those of a STATE part
abbrev pub clause_names : Which → PlainClause → List Identifier
clause_names Saves c = names.clause_saves c
clause_names Triggers c = names.clause_triggers c

abbrev pub part_names : Which → PlainState → List Identifier
part_names which part = flat_map (clause_names which) part.clauses
