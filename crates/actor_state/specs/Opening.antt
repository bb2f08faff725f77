-- What an opened link requires of its processes.
use Rattle.std.specs.Prelude.{◌≤◌, length}
use Rattle.plain_laws.specs.Limits.{MOST_INSTANCES, MOST_VARIABLES}
use Rattle.turn_code.specs.declared.draft.DraftProcess.{DraftProcess}

-- a process with at most as many variables and instances as the limits allow
pub record HasFew (p : DraftProcess) : Type 0 where
  pub variables : length p.variables ≤ MOST_VARIABLES
  pub instances : p.instances ≤ MOST_INSTANCES
