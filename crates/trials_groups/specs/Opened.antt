-- New terminals.
use Rattle.std.specs.Prelude.{◌≡◌, ℕ, List, All, length}
use Rattle.turn_code.specs.declared.draft.Draft.{Draft}
use Rattle.resend_store.specs.declared.messages.Mode.{Mode}
use Rattle.link_term.specs.Term.{Term}
use Rattle.link_term.specs.Opening.{IsOver}

-- so many new terminals over a set of processes
pub record AreNew (d : Draft) (mode : Mode) (links : ℕ) (terminals : List Term) : Type 0 where
  pub number : length terminals ≡ links
  pub are_new : All (IsOver d mode) terminals
