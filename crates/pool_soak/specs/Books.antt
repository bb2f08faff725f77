-- The books of the links that `soak` serves.
use Rattle.std.specs.Prelude.{◌≡◌, ℕ, List, length, Option, None, Some}
use Rattle.std.specs.List.{All}
use Rattle.plain_laws.specs.Limits.{USUAL_ENVIRONMENT, USUAL_JOURNAL, USUAL_PORT}
use Rattle.turn_code.specs.declared.draft.Draft.{Draft}
use Rattle.actor_machine.specs.Ledger.{Ledger}
use Rattle.actor_machine.specs.Kept.{opened_book}
use Rattle.mtp2_text.specs.declared.standard_text.TheConstants.{STANDARD}
use Rattle.turn_pool.specs.Receipts.{AllStand}
use Rattle.turn_pool.specs.declared.receipt.Receipt.{Receipt}
use Rattle.script_check.specs.Loaded.{IsLoaded}

-- the number of signals that each port of a link holds, of signals that may wait for the
-- environment, and of events that its journal holds: the usual sizes
abbrev pub PORT : ℕ
PORT = USUAL_PORT

abbrev pub ENVIRONMENT : ℕ
ENVIRONMENT = USUAL_ENVIRONMENT

abbrev pub JOURNAL : ℕ
JOURNAL = USUAL_JOURNAL

-- this many new links that run a process set
pub record AreOpened (set : Draft) (links : ℕ) (books : List Ledger) : Type 0 where
  pub number : length books ≡ links
  pub opened : All (λ book. book ≡ opened_book set PORT ENVIRONMENT JOURNAL) books

-- the process set `standard`, and as many new links as the script states
abbrev pub AreBegun : Option ℕ → Draft → List Ledger → Type 0
AreBegun None set books = ⊥
AreBegun (Some links) set books = IsLoaded STANDARD.now set × AreOpened set links books

-- the client made this many events and has a receipt for each of them, and each receipt's event is
-- at its place in a journal
pub record AreKept (made : ℕ) (books : List Ledger) (receipts : List Receipt) : Type 0 where
  pub number : made ≡ length receipts
  pub stand : AllStand books receipts
