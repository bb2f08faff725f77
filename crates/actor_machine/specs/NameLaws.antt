-- Laws on the actors of a set.
use Rattle.std.specs.Prelude.{◌≡◌, ◌↔◌, ℕ, ◌+◌, ◌<◌, ◌≤◌, List, length, sum_by, take, All, Some}
use Rattle.std.specs.Prelude.{slice_get}
use Rattle.turn_code.specs.declared.draft.DraftProcess.{DraftProcess}
use Rattle.actor_machine.specs.Names.{named, actors_of, place_of}
use Rattle.actor_machine.specs.declared.name.ActorName.{ActorName}

-- the number of instances of all processes
abbrev pub instances_in : List DraftProcess → ℕ
instances_in ps = sum_by (λ (p : DraftProcess). p.instances) ps

-- the process is declared, and has such an instance
pub record IsInstance (ps : List DraftProcess) (x : ActorName) : Type 0 where
  pub process : DraftProcess
  pub there : slice_get ps x.process.0 ≡ Some process
  pub least : 1 ≤ x.instance.0
  pub most : x.instance.0 ≤ process.instances

pub record ActorsLaw : Type 0 where
  -- there are as many actors as instances
  pub count : (ps : List DraftProcess) → length (actors_of ps) ≡ instances_in ps
  -- the instances of process p follow those of all earlier processes, the first one first
  pub placed :
      (ps : List DraftProcess) (p k : ℕ) (x : DraftProcess) → slice_get ps p ≡ Some x
      → k < x.instances
      → slice_get (actors_of ps) (instances_in (take p ps) + k) ≡ Some (named p (k + 1))
  -- the first place of an actor's name is its number, and the other way round
  pub numbers :
      (ps : List DraftProcess) (n : ℕ) (x : ActorName)
      → (slice_get (actors_of ps) n ≡ Some x) ↔ (place_of x (actors_of ps) ≡ Some n)
  -- each actor is an instance of a process
  pub instances :
      (ps : List DraftProcess) (n : ℕ) (x : ActorName) → slice_get (actors_of ps) n ≡ Some x
      → IsInstance ps x
  -- if each process has one instance, an actor has the number of its process
  pub ones : (ps : List DraftProcess) (p : ℕ) → All (λ (x : DraftProcess). x.instances ≡ 1) ps
      → p < length ps → slice_get (actors_of ps) p ≡ Some (named p 1)
