use Rattle.std.proofs.Common.{◌≡◌, ℕ, List, Option, Some, ap, ◌∙◌}
use Rattle.turn_code.specs.declared.value.Value.{Value}
use Rattle.turn_code.specs.declared.numbers.SignalNumber.{SignalNumber}
use Rattle.actor_machine.specs.Ledger.{Ledger}
use Rattle.actor_machine.specs.declared.event.Event.TheVariants.{Offer}
use Rattle.script_lines.specs.declared.word.Called.{Called}
use Rattle.script_book.specs.Answers.{Took, took, offered_by}
use Rattle.script_book.proofs.offers.offer.Goals as goal

-- An offer whose names were found.
offered_is : (b : Ledger) (us vs : List Value) (x : Called) (s : SignalNumber) (o : Option Called) (p : Option ℕ) → us ≡ vs → Some x ≡ o → Some s.0 ≡ p
    → took b (Offer (record { actor = x.number; signal = s; values = record { items = us } })) ≡ offered_by b vs o p
offered_is b us vs x s o p g h k =
    ap (λ (ws : List Value). offered_by b ws (Some x) (Some s.0)) g
    ∙ ap (λ (q : Option Called). offered_by b vs q (Some s.0)) h
    ∙ ap (λ (n : Option ℕ). offered_by b vs o n) k

pub returns-clause-refusal : goal.returns-clause-refusal
returns-clause-refusal c =
    c.offer_to.ensures.refusal
    ∙ ap (λ (t : Took). t.refusal)
    (offered_is c.args.book.now c.deref.result.now c.args.given.now.values.items c.in-Some.actor c.in-Some-signal_named.signal _ _
    c.deref.ensures.value c.in-Some.ensures c.in-Some-signal_named.ensures)
