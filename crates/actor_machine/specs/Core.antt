-- The state of a link (Z.100, the behaviour of a set of processes).
use Rattle.std.specs.Prelude.{ℕ, Bool as Truth, List, map, Option, None, Some, slice_get, slice_set}
use Rattle.std.specs.Prelude.{count_by, is_some}
use Rattle.actor_machine.specs.declared.name.ActorName.{ActorName}
use Rattle.tick_wheel.specs.Timers.{Timers}
use Rattle.actor_machine.specs.declared.actor.Actor.{Actor}
use Rattle.actor_machine.specs.declared.reply.Emitted.{Emitted}

-- the signals that wait for the environment, in the order in which they were sent, and their limit
pub record Ring : Type 0 where
  pub capacity : ℕ
  pub items : List Emitted

-- the actors by number, the active timers with the clock, the signals for the environment, and the
-- numbers of turns begun, of turns ended and of the instructions that these took
pub record Core : Type 0 where
  pub actors : List Actor
  pub timers : Timers
  pub ring : Ring
  pub turns : ℕ
  pub finishes : ℕ
  pub instructions : ℕ

abbrev pub set_at : {A : Type 0} → List A → ℕ → (A → A) → Option A → List A
set_at xs n f None = xs
set_at xs n f (Some x) = slice_set xs n (f x)

-- the list with its element n changed, if there is one
abbrev pub change : {A : Type 0} → List A → ℕ → (A → A) → List A
change xs n f = set_at xs n f (slice_get xs n)

-- as `change`, for a number that may not be found
abbrev pub change_found : {A : Type 0} → List A → Option ℕ → (A → A) → List A
change_found xs None f = xs
change_found xs (Some n) f = change xs n f

abbrev pub found_in : {A : Type 0} → List A → Option ℕ → Option A
found_in xs None = None
found_in xs (Some n) = slice_get xs n

-- the names of the actors, by number
abbrev pub names_in : List Actor → List ActorName
names_in actors = map (λ (a : Actor). a.name) actors

-- whether an actor has a turn out
abbrev pub is_out : Actor → Truth
is_out a = is_some a.given

-- the number of actors that have a turn out
abbrev pub outs : List Actor → ℕ
outs actors = count_by is_out actors
