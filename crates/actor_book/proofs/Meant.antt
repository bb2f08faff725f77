-- Events by any meaning of the set.
use Rattle.std.proofs.Common.{◌≡◌, ℕ, List, [], ◌∷◌, sym, ap, ◌∙◌, subst}
use Rattle.turn_code.specs.Outcome.{Meaning, Means}
use Rattle.turn_code.specs.declared.draft.Draft.{Draft}
use Rattle.actor_machine.specs.Kept.{IsKept}
use Rattle.actor_machine.specs.Laws.{KeepsLaw, SetLaw, TextLaw, SameByText}
use Rattle.actor_machine.specs.Ledger.{Ledger, ask, ask_by, state_by, state_of}
use Rattle.actor_machine.specs.Step.{Answer, Says}
use Rattle.actor_machine.specs.declared.event.Event.{Event}
use Rattle.actor_machine.specs.declared.event.Event.TheVariants.{Begin, Finish}
use Rattle.actor_machine.specs.declared.reply.Refusal.{Refusal}
use Rattle.actor_machine.specs.declared.reply.Report.{Report}
use Rattle.actor_machine.specs.declared.reply.Reply.TheVariants as reply
use Rattle.actor_book.specs.Meant.{ComesTo, FinishesByText, TurnsByText, RefusesByText}
use Rattle.actor_book.specs.Whole.{begun_book, turned}

first_same : (x y : Answer) (xs ys : List Answer) → x ∷ xs ≡ y ∷ ys → x ≡ y
first_same x y xs ys h = cc

-- an event has the same result by any meaning of the set as by the set's own code
comes_to : TextLaw → (act : Meaning) (b : Ledger) (e : Event) (answer : Answer) (after : Ledger) → IsKept b → Means act b.set
    → after ≡ (ask b e).book → (ask b e).answer ≡ answer → ComesTo act (ask_by act b e) answer after
comes_to text act b e answer after kept means book says =
    let same : SameByText act b (e ∷ []) = text act b (e ∷ []) kept means in
    let into : (ask_by act b e).book ≡ (ask b e).book = same.book in
    record {
      answers = first_same (ask_by act b e).answer (ask b e).answer [] [] same.answers ∙ says;
      book = book ∙ sym into;
      state = ap (λ (x : Ledger). state_of x) book ∙ sym same.state ∙ ap (λ (x : Ledger). state_by act x) (into ∙ sym book);
    }

pub finishes_by_text : TextLaw → (b : Ledger) (n : ℕ) (report : Report) (after : Ledger) → IsKept b → after ≡ (ask b (Finish n)).book
    → (ask b (Finish n)).answer ≡ Says (reply.Finished report) → FinishesByText b n report after
finishes_by_text text b n report after kept book says = λ act means.
    comes_to text act b (Finish n) (Says (reply.Finished report)) after kept means book says

-- the book in which the turn has begun is the same by any meaning of the set
pub turns_by_text : TextLaw → KeepsLaw → SetLaw → (b : Ledger) (n : ℕ) (report : Report) (after : Ledger) → IsKept b → after ≡ (turned b n).book
    → (turned b n).answer ≡ Says (reply.Finished report) → TurnsByText b n report after
turns_by_text text keeps sets b n report after kept book says = λ act means.
    let begun : (ask_by act b (Begin n)).book ≡ begun_book b n = (text act b (Begin n ∷ []) kept means).book in
    let means_too : Means act (begun_book b n).set = subst (λ (d : Draft). Means act d) (sym (sets.asks b (Begin n))) means in
    subst (λ (x : Ledger). ComesTo act (ask_by act x (Finish n)) (Says (reply.Finished report)) after) (sym begun)
    (comes_to text act (begun_book b n) (Finish n) (Says (reply.Finished report)) after (keeps.asks b (Begin n) kept) means_too book says)

pub refuses_by_text : TextLaw → (b : Ledger) (n : ℕ) (r : Refusal) → IsKept b → (ask b (Begin n)).answer ≡ Says (reply.Refused r)
    → RefusesByText b n r
refuses_by_text text b n r kept says = λ act means.
    first_same (ask_by act b (Begin n)).answer (ask b (Begin n)).answer [] [] (text act b (Begin n ∷ []) kept means).answers ∙ says
