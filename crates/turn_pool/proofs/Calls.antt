-- The answer to a client's call.
use Rattle.std.proofs.Common.{◌≡◌, ℕ, sym, ap, ◌∙◌}
use Rattle.actor_machine.specs.Step.{Says}
use Rattle.actor_machine.specs.Kept.{IsKept}
use Rattle.actor_machine.specs.Ledger.{Ledger, ask, next}
use Rattle.actor_machine.specs.declared.event.Event.{Event}
use Rattle.actor_machine.specs.declared.reply.Reply.{Reply}
use Rattle.turn_pool.specs.declared.receipt.PoolRefusal.{PoolRefusal}
use Rattle.turn_pool.specs.declared.receipt.PoolRefusal.TheVariants.{NoLink, Closing, NoMemory, Refused}
use Rattle.turn_pool.specs.declared.receipt.Receipt.{Receipt}
use Rattle.turn_pool.specs.Receipts.{IsOwn, IsTaken, IsRefusal, IsRebaseRefusal}

abbrev of_link : ℕ → Receipt → Receipt
of_link link r = record { link = link; place = r.place; event = r.event }

-- the receipt of an event that a book took, for the link that the client named
pub taken_by : (link number : ℕ) (e : Event) (says : Reply) (b : Ledger) (given r : Receipt) → IsKept b → Says says ≡ (ask b e).answer
    → given ≡ record { link = number; place = next b; event = e }
    → r ≡ record { link = link; place = given.place; event = given.event } → IsTaken link e says r
taken_by link number e says b given r kept answer names is = record {
  book = b;
  kept = kept;
  answers = sym answer;
  names = is ∙ ap (of_link link) names;
}

pub own : (e : Event) (p : PoolRefusal) → IsOwn p → IsRefusal e p
own e NoLink is = is
own e Closing is = is
own e NoMemory is = is
own e (Refused r) is = absurd is

pub own_rebase : (p : PoolRefusal) → IsOwn p → IsRebaseRefusal p
own_rebase NoLink is = is
own_rebase Closing is = is
own_rebase NoMemory is = absurd is
own_rebase (Refused r) is = is
