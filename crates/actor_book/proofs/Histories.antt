-- How a book came about: the schedule that led to it, one step longer with each call.
use Rattle.std.proofs.Common.{◌≡◌, ℕ, List, [], ◌∷◌, ◌++◌, refl, sym, ap, ◌∙◌, subst}
use Rattle.std.proofs.Math.Logic.{∥∥₁_map}
use Rattle.turn_code.specs.declared.draft.Draft.{Draft}
use Rattle.actor_machine.specs.Kept.{opened_book}
use Rattle.actor_machine.specs.Ledger.{Ledger, runs, ask, ask_by, rebased}
use Rattle.actor_machine.specs.declared.event.Event.{Event}
use Rattle.actor_machine.proofs.Replays.{with_event}
use Rattle.actor_book.specs.Schedules.{HasHistory, scheduled_by, stepped_by}
use Rattle.actor_book.specs.declared.schedule.Scheduled.{Scheduled}
use Rattle.actor_book.specs.declared.schedule.Scheduled.TheVariants as step
use Rattle.actor_book.proofs.Schedulings.{rebased_is, scheduled_more}

one_more : (b c : Ledger) (s : Scheduled) → c.set ≡ b.set → c.limit ≡ b.limit → c ≡ stepped_by (runs b.set) b s → HasHistory b → HasHistory c
one_more b c s set limit is h = record {
  port = h.port;
  env = h.env;
  steps = h.steps ++ s ∷ [];
  book = is ∙ ap (λ (x : Ledger). stepped_by (runs b.set) x s) h.book
      ∙ sym (scheduled_more (runs b.set) (opened_book b.set h.port h.env b.limit) h.steps s)
      ∙ ap (λ (d : Draft). scheduled_by (runs d) (opened_book d h.port h.env b.limit) (h.steps ++ s ∷ [])) (sym set)
      ∙ ap (λ (n : ℕ). scheduled_by (runs c.set) (opened_book c.set h.port h.env n) (h.steps ++ s ∷ [])) (sym limit);
}

-- an accepted event
pub history_more : (b : Ledger) (e : Event) → (ask b e).book ≡ with_event b e → ∥ HasHistory b ∥₁ → ∥ HasHistory (with_event b e) ∥₁
history_more b e is h = ∥∥₁_map h (one_more b (with_event b e) (step.Event e) refl refl (sym is))

-- a rebase
rebased_set : (b : Ledger) → (rebased b).set ≡ b.set
unfolding rebased
rebased_set b = refl

rebased_limit : (b : Ledger) → (rebased b).limit ≡ b.limit
unfolding rebased
rebased_limit b = refl

pub history_rebased : (b : Ledger) → ∥ HasHistory b ∥₁ → ∥ HasHistory (rebased b) ∥₁
history_rebased b h = ∥∥₁_map h (one_more b (rebased b) step.Rebase (rebased_set b) (rebased_limit b) (sym (rebased_is b)))

-- an opening
opened_so : (d : Draft) (port env journal : ℕ) → HasHistory (opened_book d port env journal)
unfolding opened_book
opened_so d port env journal = record { port = port; env = env; steps = []; book = refl }

pub history_opened : (d : Draft) (port env journal : ℕ) → ∥ HasHistory (opened_book d port env journal) ∥₁
history_opened d port env journal = ∣ opened_so d port env journal ∣₁
