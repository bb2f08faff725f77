-- The paths of a block's routes, with the numbers of their names.
use Rattle.std.specs.Prelude.{◌≤◌, List, length, All, IsSome}
use Rattle.plain_laws.specs.Limits.{MOST_PROCESSES, MOST_SIGNALS}
use Rattle.sdl_ast.specs.declared.expression.Identifier.{Identifier}
use Rattle.sdl_ast.specs.declared.tree.Party.{Party}
use Rattle.sdl_ast.specs.declared.tree.Party.TheVariants.{Environment, Process}
use Rattle.sdl_ast.specs.Plain.{PlainPath, PlainBlock}
use Rattle.turn_code.specs.declared.numbers.SignalNumber.{SignalNumber}
use Rattle.sdl_tables.specs.Names.{number_of, signal_names, process_names}
use Rattle.sdl_meaning.specs.Code.{number_or_zero}

-- The environment, or a process with one of these names.
abbrev pub KnownParty : List Identifier → Party → Type 0
KnownParty processes Environment = Unit {0}
KnownParty processes (Process id) = IsSome (number_of processes id.name)

abbrev pub IsKnown : List Identifier → Identifier → Type 0
IsKnown among id = IsSome (number_of among id.name)

-- The processes and signals of a path are declared.
pub record IsKnownPath (b : PlainBlock) (path : PlainPath) : Type 0 where
  pub from : KnownParty (process_names b) path.from
  pub to : KnownParty (process_names b) path.to
  pub signals : All (IsKnown (signal_names b)) path.signals

-- The block is within the limits on numbers.
pub record HasFewNames (b : PlainBlock) : Type 0 where
  pub processes : length (process_names b) ≤ MOST_PROCESSES
  pub signals : length (signal_names b) ≤ MOST_SIGNALS

abbrev pub signal_numbered : List Identifier → Identifier → SignalNumber
signal_numbered signals id = record { 0 = number_or_zero (number_of signals id.name) }
