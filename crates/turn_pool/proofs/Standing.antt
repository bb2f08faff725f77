-- The place of a receipt's event in the journal.
use Rattle.std.proofs.Common.{◌≡◌, ℕ, ◌+◌, Some, sym, ap, ◌∙◌}
use Rattle.actor_machine.specs.Ledger.{Ledger, ask, next, event_at}
use Rattle.actor_machine.specs.declared.event.Event.{Event}
use Rattle.turn_pool.specs.declared.receipt.Receipt.{Receipt}
use Rattle.turn_pool.proofs.Asks.{stands}

abbrev made : ℕ → ℕ → Event → Receipt
made link place e = record { link = link; place = place; event = e }

pub same_receipt : (link number place at : ℕ) (e f : Event) → link ≡ number → place ≡ at → e ≡ f → made link place e ≡ made number at f
same_receipt link number place at e f p q r = ap (λ n. made n place e) p ∙ ap (λ k. made number k e) q ∙ ap (λ x. made number at x) r

-- the event that led from a book to another is at the place that was the next
pub stands_at : (b c : Ledger) (place : ℕ) (e : Event) → c ≡ (ask b e).book → place ≡ next b → next c ≡ next b + 1 → event_at c place ≡ Some e
stands_at b c place e into is more =
    ap (λ (d : Ledger). event_at d place) into ∙ ap (λ k. event_at (ask b e).book k) is ∙ stands b e (ap next (sym into) ∙ more)
