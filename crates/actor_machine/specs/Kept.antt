-- The invariant of every book. All fits in each state from its base to the present one, and its
-- numbers stay within their bounds. Different turns that are out have different numbers. No timer
-- that has a deadline has a signal in the port.
use Rattle.std.specs.Prelude.{◌≡◌, ℕ, ◌+◌, ◌*◌, ◌<◌, ◌≤◌, Bool, true, false, suc, List, [], ◌∷◌}
use Rattle.std.specs.Prelude.{◌++◌, length, map, count_by, None, Some, slice_get}
use Rattle.std.specs.FinMap as finite
use Rattle.plain_laws.specs.Limits.{LAST_PLACE, LAST_TICK, MOST_INSTRUCTIONS, MOST_JOURNAL}
use Rattle.plain_laws.specs.Limits.{MOST_TURNS_BEGUN}
use Rattle.turn_code.specs.Valid.{IsValid}
use Rattle.turn_code.specs.Start.{initial_values}
use Rattle.turn_code.specs.declared.input.Place.TheVariants.{Start}
use Rattle.turn_code.specs.declared.draft.Draft.{Draft}
use Rattle.turn_code.specs.declared.draft.DraftProcess.{DraftProcess}
use Rattle.input_port.specs.Queue.{has_timer}
use Rattle.tick_wheel.specs.Timers.{Deadlines}
use Rattle.actor_machine.specs.Names.{instances_from}
use Rattle.actor_machine.specs.declared.name.ActorName.{ActorName}
use Rattle.actor_machine.specs.Core.{Core, outs}
use Rattle.actor_machine.specs.Effects.{timer_of}
use Rattle.actor_machine.specs.Fits.{CoreFits}
use Rattle.actor_machine.specs.Step.{step}
use Rattle.actor_machine.specs.Ledger.{Ledger, runs, state_of}
use Rattle.actor_machine.specs.declared.actor.Actor.{Actor}
use Rattle.actor_machine.specs.declared.actor.Given.{Given}
use Rattle.actor_machine.specs.declared.actor.Standing.TheVariants.{At}
use Rattle.actor_machine.specs.declared.event.Event.{Event}
use Rattle.actor_machine.specs.declared.event.Event.TheVariants.{Offer, Begin, Skip, Finish}
use Rattle.actor_machine.specs.declared.event.Event.TheVariants.{Advance, TakeEnv}

-- all fits in the state, and in each state that the events lead to
abbrev pub FitsAlong : Draft → Core → List Event → Type 0
FitsAlong d w [] = CoreFits d w
FitsAlong d w (e ∷ es) = CoreFits d w × FitsAlong d (step d (runs d) w e).to es

abbrev pub is_finish : Event → Bool
is_finish (Offer o) = false
is_finish (Begin n) = false
is_finish (Skip n) = false
is_finish (Finish n) = true
is_finish (Advance k) = false
is_finish TakeEnv = false

-- the set is valid, all fits along the journal, and the end of each turn in it is counted
pub record Stands (b : Ledger) : Type 0 where
  pub valid : IsValid b.set
  pub along : FitsAlong b.set b.base b.journal
  pub finishes : (state_of b).finishes ≡ b.base.finishes + count_by is_finish b.journal

-- the journal keeps a place for each turn that is out; each turn begun is out or has ended; all
-- numbers stay within their bounds
pub record IsBounded (b : Ledger) (w : Core) : Type 0 where
  pub room : length b.journal + outs w.actors ≤ b.limit
  pub places : b.first + length b.journal + outs w.actors ≤ LAST_PLACE + b.limit
  pub limit : b.limit ≤ MOST_JOURNAL
  pub turns : w.turns ≤ MOST_TURNS_BEGUN
  pub finishes : w.finishes + outs w.actors ≡ w.turns
  pub instructions : w.instructions ≤ MOST_INSTRUCTIONS * w.finishes
  pub clock : w.timers.clock ≤ LAST_TICK

-- actor n has this turn out
pub record HasOut (actors : List Actor) (n : ℕ) (g : Given) : Type 0 where
  pub actor : Actor
  pub there : slice_get actors n ≡ Some actor
  pub out : actor.given ≡ Some g

-- different turns that are out have different numbers, all below that of the next turn
pub record AreNumbered (w : Core) : Type 0 where
  pub below : (n : ℕ) (g : Given) → HasOut w.actors n g → g.turn < w.turns
  pub apart :
      (m n : ℕ) (f g : Given) → HasOut w.actors m f → HasOut w.actors n g → f.turn ≡ g.turn → m ≡ n

-- no timer of actor n that has a deadline has a signal in the port
abbrev pub IsSilent : Deadlines → ℕ → Actor → Type 0
IsSilent deadlines n a =
    (timer until : ℕ) → finite.get deadlines (timer_of n timer) ≡ Some until
    → has_timer a.port.items timer ≡ false

-- this holds of each actor
pub record AreSilent (w : Core) : Type 0 where
  pub each : (n : ℕ) (a : Actor) → slice_get w.actors n ≡ Some a → IsSilent w.timers.deadlines n a

pub record IsKept (b : Ledger) : Type 0 where
  pub stands : Stands b
  pub bounded : IsBounded b (state_of b)
  pub numbered : AreNumbered (state_of b)
  pub silent : AreSilent (state_of b)

-- ---- how a book begins

-- an actor of a process before its START, with room for `port` signals
abbrev pub opened_actor : ℕ → DraftProcess → ActorName → Actor
opened_actor port p name = record {
  name = name;
  standing = At Start;
  variables = record { items = initial_values p.variables };
  port = record { capacity = port; items = [] };
  given = None;
}

-- the actors of some processes, the first of which is process n
abbrev pub opened_from : ℕ → ℕ → List DraftProcess → List Actor
opened_from port n [] = []
opened_from port n (p ∷ ps) =
    map (opened_actor port p) (instances_from n 1 p.instances) ++ opened_from port (suc n) ps

unfoldable pub opened : Draft → ℕ → ℕ → Core
opened d port env = record {
  actors = opened_from port 0 d.processes;
  timers = record { clock = 0; deadlines = finite.empty };
  ring = record { capacity = env; items = [] };
  turns = 0;
  finishes = 0;
  instructions = 0;
}

unfoldable pub opened_book : Draft → ℕ → ℕ → ℕ → Ledger
opened_book d port env journal =
    record { set = d; base = opened d port env; first = 0; journal = []; limit = journal }
