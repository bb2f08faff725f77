-- The lines that `soak` prints at its end.
use Rattle.std.specs.Prelude.{ℕ, Bool, true, false, List, codes}
use Rattle.pool_soak.specs.declared.finding_lines.Finding.{Finding}
use Rattle.pool_soak.specs.declared.finding_lines.Finding.TheVariants.{SeatsAgree, SeatsDiffer}
use Rattle.pool_soak.specs.declared.finding_lines.Finding.TheVariants.{AuditYes, AuditNo}

abbrev pub finding_text : Finding → List ℕ
finding_text SeatsAgree = codes "seats agree"
finding_text SeatsDiffer = codes "seats differ"
finding_text AuditYes = codes "audit yes"
finding_text AuditNo = codes "audit no"

-- the finding for the seats, and for the receipts
abbrev pub seats_finding : Bool → Finding
seats_finding true = SeatsAgree
seats_finding false = SeatsDiffer

abbrev pub audit_finding : Bool → Finding
audit_finding true = AuditYes
audit_finding false = AuditNo
