-- The beginning of runs.
use Rattle.std.proofs.Common.{ℕ, List, [], Option, None}
use Rattle.std.proofs.KnownBytes.{Appends-nil}
use Rattle.actor_machine.specs.Ledger.{Ledger}
use Rattle.script_book.specs.Played.{begins, IsRun}

-- Nothing was obeyed yet.
pub run_begins : (b : Ledger) (now : Option (List ℕ)) → IsRun b [] now now b None
run_begins b now = record { lines = []; goes = begins; written = Appends-nil now }
