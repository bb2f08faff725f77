-- The variable in which a set counts aborted proving periods, if it has one.
use Rattle.std.proofs.Common.{◌≡◌, ℕ, Some}
use Rattle.std.specs.Prelude.{codes}
use Rattle.turn_check.specs.Named.{IsFirst, process_names, variable_names}
use Rattle.turn_code.specs.declared.draft.Draft.{Draft}
use Rattle.actor_machine.specs.Names.{named, actors_of, place_of}
use Rattle.link_processes.specs.Known.{IsCount}
use Rattle.link_processes.specs.declared.names.Periods.{Periods}

pub counts : (d : Draft) (p : ℕ) (x : Periods) → IsFirst (process_names d) p (codes "IAC") → place_of (named p 1) (actors_of d.processes) ≡ Some x.actor
    → IsFirst (variable_names d p) x.variable.0 (codes "cp") → IsCount d x
counts d p x called number variable = record { process = p; called = called; number = number; variable = variable }
