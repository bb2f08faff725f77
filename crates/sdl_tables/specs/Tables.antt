-- The contents of the tables of a process.
use Rattle.std.specs.Prelude.{◌≡◌, ◌++◌, [], map}
use Rattle.std.specs.List.{flat_map}
use Rattle.sdl_ast.specs.Views.{process_of, input_of}
use Rattle.sdl_tables.specs.Names.{variable_names, variables_of, timers_of, connector_names}
use Rattle.sdl_tables.specs.Names.{states_of, input_parts, names_once, triggers_by_state}
use Rattle.sdl_ast.specs.Plain.{PlainProcess}
use Rattle.sdl_tables.specs.Scopes.{Marks, repeats, process_scopes}
use Rattle.sdl_tables.specs.Rows.{variable_of}
use Rattle.sdl_tables.specs.declared.process_table.ProcessTable.TheInside.{Inside}
use Rattle.sdl_tables.specs.declared.process_table.Declared.{Declared}
use Rattle.sdl_tables.specs.declared.process_table.Standing.{Standing}

-- the declarations of a process without duplicates, and the place of a duplicate
pub record HasDeclared (p : PlainProcess) (d : Declared) : Type 0 where
  pub variables : d.variables ≡ names_once (variable_names p)
  pub rows : map variable_of d.rows.items ≡ variables_of p
  pub timers : d.timers ≡ names_once (timers_of p)
  pub connectors : d.connectors ≡ names_once (connector_names p)
  pub double :
      Marks d.double (repeats [] (variable_names p)
      ++ (repeats [] (timers_of p) ++ repeats [] (connector_names p)))

-- the states and INPUTs of a process, and the place of a name that a state consumes or saves twice
pub record HasStanding (p : PlainProcess) (t : Standing) : Type 0 where
  pub states : t.states ≡ states_of p
  pub parts : map (λ i. input_of i.now) t.parts.items ≡ input_parts p
  pub double : Marks t.double (flat_map (repeats []) (triggers_by_state p))

-- the tables agree with the process, and no name is a duplicate
pub record HasTables (t : Inside) : Type 0 where
  pub variables : t.variables ≡ variable_names (process_of t.process.now)
  pub rows : map variable_of t.rows.items ≡ variables_of (process_of t.process.now)
  pub timers : t.timers ≡ timers_of (process_of t.process.now)
  pub connectors : t.connectors ≡ connector_names (process_of t.process.now)
  pub states : t.states ≡ states_of (process_of t.process.now)
  pub parts : map (λ i. input_of i.now) t.parts.items ≡ input_parts (process_of t.process.now)
  pub distinct : flat_map (repeats []) (process_scopes (process_of t.process.now)) ≡ []
