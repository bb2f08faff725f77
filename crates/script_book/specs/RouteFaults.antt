-- The reason stated for a signal of the environment that B3 refuses.
use Rattle.std.specs.Prelude.{◌≡◌, ℕ, false, List, Some, None}
use Rattle.std.specs.List.{list_any}
use Rattle.actor_machine.specs.Ledger.{Ledger}
use Rattle.actor_machine.specs.Refusals.{offers}
use Rattle.script_lines.specs.declared.word.Called.{Called}
use Rattle.script_lines.specs.Commands.{PlainOffer}
use Rattle.script_book.specs.Answers.{actor_named, signal_named}
use Rattle.script_book.specs.declared.route_faults.RouteFault.{RouteFault}
use Rattle.script_book.specs.declared.route_faults.RouteFault.TheVariants.{NoSignal, NoRoute, Count}
use Rattle.script_book.specs.declared.route_faults.RouteFault.TheVariants.{WrongSort}

-- The actor and the signal exist, and no route carries the signal to the actor's process.
pub record IsNotRouted (b : Ledger) (o : PlainOffer) : Type 0 where
  pub actor : Called
  pub signal : ℕ
  pub is_actor : actor_named b o.process ≡ Some actor
  pub is_signal : signal_named b o.signal ≡ Some signal
  pub not_routed :
      list_any (offers actor.name.process.0 (record { 0 = signal })) b.set.routes ≡ false

-- The fault is true of the offer; `Count` and `WrongSort` state nothing.
abbrev pub IsRouteFault : Ledger → PlainOffer → RouteFault → Type 0
IsRouteFault b o (NoSignal signal) = signal_named b o.signal ≡ None
IsRouteFault b o (NoRoute signal process) = IsNotRouted b o
IsRouteFault b o (Count signal wanted there) = Unit {0}
IsRouteFault b o (WrongSort signal place sort) = Unit {0}
