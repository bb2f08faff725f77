-- The INPUTs of each state. Each is listed once, however many signals it names.
use Rattle.std.specs.Prelude.{List}
use Rattle.std.specs.Borrow.{Bor}
use Rattle.std.specs.Global.{Vec}
use Rattle.std.specs.List.{flat_map}
use Rattle.sdl_tables.specs.sdl_ast_types.tree.InputPart.{InputPart}
use Rattle.sdl_tables.specs.Views.{input_of}
use Rattle.sdl_tables.specs.Names.{Input}
use Rattle.sdl_tables.specs.Rows.{stimulus_inputs}

-- the inputs of a state that an INPUT yields
abbrev pub taken_by : Bor InputPart → List Input
taken_by i = stimulus_inputs (input_of i.now)

-- the inputs of a state that these INPUTs yield
abbrev pub taken_in : Vec (Bor InputPart) → List Input
taken_in v = flat_map taken_by v.items
