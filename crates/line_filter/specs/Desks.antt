-- How the parts of a run change a desk and its reports.
use Rattle.std.specs.Prelude.{List, Option}
use Rattle.line_filter.specs.Orders.{Timed}
use Rattle.line_filter.specs.Reporting.{Stand, ToldLine, TellsLines}
use Rattle.line_filter.specs.Runs.{State}
use Rattle.line_filter.specs.declared.desk.Desk.{Desk}

abbrev pub state_of : {T O P : Type 0} → (O → Option (List Timed)) → Desk T O P → State T
state_of left d = record { term = d.terminal; voice = d.voice; left = left d.orders }

-- Lines that fulfil R were reported.
pub record Told (R : List ToldLine → Type 0) (old new : Stand) : Type 0 where
  pub bytes : List ToldLine
  pub are : R bytes
  pub tells : TellsLines old new bytes
