-- Whole turns.
use Rattle.std.proofs.Common.{◌≡◌, ℕ, sym, ap, ◌∙◌}
use Rattle.actor_machine.specs.Ledger.{Ledger, ask}
use Rattle.actor_machine.specs.Step.{Answer}
use Rattle.actor_machine.specs.declared.event.Event.TheVariants.{Begin}
use Rattle.actor_book.specs.Whole.{HasTurned, turned}
use Rattle.actor_book.specs.declared.turn.Turn.TheVariants.{Made}
use Rattle.actor_book.specs.Turns.{refusal_in, begins_by, tried}

-- a whole turn is the result of a try
pub turned_book : (n count : ℕ) (b after : Ledger) → HasTurned b n count → after ≡ (turned b n).book → after ≡ (tried n b).book
unfolding tried
turned_book n count b after t h = h ∙ ap (λ (a : Answer). (begins_by n b (ask b (Begin n)).book (refusal_in a)).book) (sym t.began)

pub turned_made : (n count : ℕ) (b : Ledger) → HasTurned b n count → Made ≡ (tried n b).turn
unfolding tried
turned_made n count b t = ap (λ (a : Answer). (begins_by n b (ask b (Begin n)).book (refusal_in a)).turn) (sym t.began)
