-- If a set has the name of a process that a terminal looks for, it has the process's first instance.
use Rattle.std.proofs.Common.{◌≡◌, ℕ, zero, suc, ◌<◌, List, [], ◌∷◌, length, map, Some, arith}
use Rattle.std.specs.Prelude.{slice_get}
use Rattle.turn_code.specs.declared.draft.Draft.{Draft}
use Rattle.turn_code.specs.declared.draft.DraftProcess.{DraftProcess}
use Rattle.turn_check.specs.Named.{IsNamed, IsFirst, process_names}
use Rattle.actor_machine.specs.Names.{named, actors_of, place_of}
use Rattle.link_processes.specs.Known.{IsProcess, IsActor}
use Rattle.link_processes.specs.declared.words.ProcessName.{ProcessName}

there_by_name : (ps : List DraftProcess) (p : ℕ) (name : List ℕ) → IsNamed (slice_get (map (λ (p : DraftProcess). p.name) ps) p) name → p < length ps
there_by_name [] p name h = absurd h
there_by_name (x ∷ xs) zero name h = omega arith
there_by_name (x ∷ xs) (suc p) name h = let rest = there_by_name xs p name h in omega (arith, rest)

pub process_there : (d : Draft) (p : ℕ) (name : List ℕ) → IsFirst (process_names d) p name → p < length d.processes
process_there d p name first = there_by_name d.processes p name first.there

pub first_actor : (d : Draft) (p n : ℕ) (name : ProcessName) → IsProcess d p name
    → place_of (named p 1) (actors_of d.processes) ≡ Some n → IsActor d n name
first_actor d p n name first at = record { process = p; called = first; number = at }
