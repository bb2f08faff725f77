-- Events that a book refuses or takes.
use Rattle.std.specs.Prelude.{◌≡◌, Option, None}
use Rattle.actor_machine.specs.Ledger.{Ledger, runs, refusal_by}
use Rattle.actor_machine.specs.declared.event.Event.{Event}
use Rattle.actor_machine.specs.declared.reply.Refusal.{Refusal}

-- why a book refuses an event
abbrev pub refusal_of : Ledger → Event → Option Refusal
refusal_of b e = refusal_by (runs b.set) b e

-- a book accepts an event
abbrev pub Takes : Ledger → Event → Type 0
Takes b e = refusal_of b e ≡ None
