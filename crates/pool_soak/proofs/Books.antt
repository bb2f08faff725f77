-- New books: one more of them, and their counts.
use Rattle.std.proofs.Common.{◌≡◌, ℕ, ◌+◌, ◌≤◌, List, [], ◌∷◌, ◌++◌, length, length-append, sum_by, ap, sym, refl, ◌∙◌, arith, Option, None, Some}
use Rattle.std.proofs.lemmas.List.Elements.{All-append, All-cons, All-nil, All-weaker}
use Rattle.std.proofs.lemmas.List.Sums.{sum_by-le}
use Rattle.turn_code.specs.declared.draft.Draft.{Draft}
use Rattle.actor_machine.specs.Ledger.{Ledger, next}
use Rattle.actor_machine.specs.Kept.{opened_book}
use Rattle.pool_soak.specs.Books.{AreOpened, AreBegun, PORT, ENVIRONMENT, JOURNAL}

pub none_more : (d : Draft) → AreOpened d 0 []
none_more d = record { number = refl; opened = All-nil (λ book. book ≡ opened_book d PORT ENVIRONMENT JOURNAL) }

pub one_more : (d : Draft) (n : ℕ) (books : List Ledger) (b : Ledger) → AreOpened d n books → b ≡ opened_book d PORT ENVIRONMENT JOURNAL → AreOpened d (n + 1) (books ++ b ∷ [])
one_more d n books b are is = record {
  number = length-append books (b ∷ []) ∙ ap (λ k. k + 1) are.number;
  opened = All-append P books (b ∷ []) are.opened (All-cons P b [] is (All-nil P));
}
  where
    P : Ledger → Type 0
    P book = book ≡ opened_book d PORT ENVIRONMENT JOURNAL

at_zero : (d : Draft) (b : Ledger) → b ≡ opened_book d PORT ENVIRONMENT JOURNAL → next b ≤ 0
unfolding opened_book
at_zero d b is = omega (arith, ap next is)

-- the journals of new books begin at event 0
pub none_counted : (d : Draft) (n : ℕ) (books : List Ledger) → AreOpened d n books → sum_by next books ≡ 0
none_counted d n books are =
    let most = sum_by-le next 0 books (All-weaker (λ b. b ≡ opened_book d PORT ENVIRONMENT JOURNAL) (λ b. next b ≤ 0) (at_zero d) books are.opened) in
    omega (arith, most)

-- so the number of events counted is the number in their journals
pub agree : (links : Option ℕ) (d : Draft) (books after : List Ledger) (client workers : ℕ) → AreBegun links d books
    → client + workers + sum_by next books ≡ sum_by next after → client + workers ≡ sum_by next after
agree (Some n) d books after client workers are totals = omega (arith, none_counted d n books are.1, totals)
agree None d books after client workers are totals = absurd are

-- there are as many books as links in the script
pub said : (links : Option ℕ) (d : Draft) (books : List Ledger) (n : ℕ) → AreBegun links d books → n ≡ length books → links ≡ Some n
said (Some links) d books n are is = ap Some (sym are.1.number ∙ sym is)
said None d books n are is = absurd are
