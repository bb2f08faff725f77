-- The queue of a sender: messages, oldest first, the first `sent` of them sent.
use Rattle.std.specs.Prelude.{ℕ, List}
use Rattle.resend_store.specs.declared.messages.Msu.{Msu}

pub record Stored : Type 0 where
  pub kept : List Msu
  pub sent : ℕ
