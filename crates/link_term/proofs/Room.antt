-- Room in the journal.
use Rattle.std.proofs.Common.{◌≡◌, ℕ, Bool, true, false, Some, None, Result, Ok, Err, IfErr, IsOk, refl, sym, ap, ◌∙◌}
use Rattle.std.specs.Prelude.{if◌then◌else◌}
use Rattle.actor_machine.specs.Ledger.{rebased}
use Rattle.actor_machine.specs.declared.reply.Refusal.{Refusal}
use Rattle.link_processes.specs.declared.processes.Processes.{Processes}
use Rattle.link_processes.specs.Machine.{with_book, tidied, is_low, tick_refusal}
use Rattle.link_term.specs.declared.answers.CallError.{CallError}
use Rattle.link_term.specs.declared.answers.CallError.TheVariants.{Refused, NoMemory}
use Rattle.link_term.specs.Term.{IsTickError}

tidy_already : (t : Processes) → is_low t ≡ false → tidied t ≡ t
unfolding tidied
tidy_already t e = ap (λ (b : Bool). if b then with_book t (rebased t.book) else t) e

some_is_none : (r : Refusal) → Some r ≡ None → ⊥
some_is_none r h = cc

false_is_true : false ≡ true → ⊥
false_is_true h = cc

-- if no room is to be made, a tick is refused only for the reason given beforehand
pub tick_happens : (n : ℕ) (t : Processes) (result : Result ℕ CallError) → IfErr result (IsTickError n t) → is_low t ≡ false → tick_refusal n t ≡ None
    → IsOk result
tick_happens n t (Ok due) error room none = refl
tick_happens n t (Err (Refused r)) error room none =
    absurd (some_is_none r (sym error ∙ ap (tick_refusal n) (tidy_already t room) ∙ none))
tick_happens n t (Err NoMemory) error room none = absurd (false_is_true (sym room ∙ error))
