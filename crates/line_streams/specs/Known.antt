-- The source of orders and the destination of reports.
use Rattle.std.specs.Prelude.{◌≡◌, ⊤, ℕ, List, [], Option, None, Some}
use Rattle.std.specs.Io.KnownBytes.{Appends}
use Rattle.line_filter.specs.Orders.{Timed}
use Rattle.line_filter.specs.Reporting.{Stand, whole, ToldLine}
use Rattle.line_streams.specs.Departing.{stand_in, IsStuck, ReportsOn, EndsOn}
use Rattle.line_streams.specs.declared.opening.OrderStream.{OrderStream}
use Rattle.line_streams.specs.declared.opening.OrderStream.TheVariants.{Nothing, Live}
use Rattle.line_streams.specs.declared.opening.ReportStream.{ReportStream}
use Rattle.line_streams.specs.declared.records.RecordStream.{RecordStream}
use Rattle.line_streams.specs.declared.records.RecordStream.TheVariants.{File as record_file}
use Rattle.line_streams.specs.declared.records.RecordStream.TheVariants.{Fifo as record_fifo}
use Rattle.line_streams.specs.declared.opening.ReportStream.TheVariants.{Errors, File as to_file}
use Rattle.line_streams.specs.declared.opening.ReportStream.TheVariants.{Fifo as to_fifo}

-- The octets of orders that are known to exist; those of a file or a FIFO aren't known.
abbrev pub known_of : OrderStream → Option (List ℕ)
known_of Nothing = Some []
known_of (Live orders) = None

-- The remaining orders, if they are known.
abbrev pub left_of : OrderStream → Option (List Timed)
left_of Nothing = Some []
left_of (Live orders) = None

-- Without a path there are no orders; else they come from the path.
abbrev pub ComeFrom : {A : Type 0} → Option A → OrderStream → Type 0
ComeFrom None stream = stream ≡ Nothing
ComeFrom (Some path) Nothing = ⊥
ComeFrom (Some path) (Live orders) = ⊤

-- Without a path reports go to the errors' destination; else they go to the path.
abbrev pub GoTo : {A H E : Type 0} → Option A → E → ReportStream H E → Type 0
GoTo None errors stream = stream ≡ Errors errors
GoTo (Some path) errors (Errors others) = ⊥
GoTo (Some path) errors (to_file file) = ⊤
GoTo (Some path) errors (to_fifo departures) = ⊤

-- The state of reports: all are written to the destination of errors; or to a file, of which
-- nothing is known; or, if nothing may wait for the reader, lines wait or are lost.
abbrev pub stand_of : {H E : Type 0} → (E → Option (List ℕ)) → ReportStream H E → Stand
stand_of contents (Errors errors) = whole (contents errors)
stand_of contents (to_file file) = whole None
stand_of contents (to_fifo d) = stand_in d.outlet

-- A line was reported. It waits or is lost only if no room was known for it.
abbrev pub IsReported : {H E : Type 0} → (E → Option (List ℕ)) → ToldLine → ReportStream H E
    → ReportStream H E → Type 0
IsReported contents line (Errors old) (Errors new) =
    Appends (contents old) (contents new) line.octets
IsReported contents line (Errors old) (to_file file) = ⊥
IsReported contents line (Errors old) (to_fifo new) = ⊥
IsReported contents line (to_file old) (Errors new) = ⊥
IsReported contents line (to_file old) (to_file new) = ⊤
IsReported contents line (to_file old) (to_fifo new) = ⊥
IsReported contents line (to_fifo old) (Errors new) = ⊥
IsReported contents line (to_fifo old) (to_file new) = ⊥
IsReported contents line (to_fifo old) (to_fifo new) = ReportsOn line old.outlet new.outlet

-- If reports go to a FIFO, no line waits for its reader, or there was no room for the first one.
abbrev pub AreStuck : {H E : Type 0} → ReportStream H E → Type 0
AreStuck (Errors errors) = ⊤
AreStuck (to_file file) = ⊤
AreStuck (to_fifo d) = IsStuck d.outlet

-- Reports have ended: if nothing may wait for their reader the number of lost lines is reported,
-- else nothing is to be done.
abbrev pub EndsTold : {H E : Type 0} → ℕ → ReportStream H E → ReportStream H E → Type 0
EndsTold now (Errors errors) new = new ≡ Errors errors
EndsTold now (to_file file) new = new ≡ to_file file
EndsTold now (to_fifo old) (Errors errors) = ⊥
EndsTold now (to_fifo old) (to_file file) = ⊥
EndsTold now (to_fifo old) (to_fifo new) = EndsOn now old.outlet new.outlet

-- The number of lost records; those that go to a file are never lost.
abbrev pub lost_of : RecordStream → ℕ
lost_of (record_file file) = 0
lost_of (record_fifo departures) = departures.outlet.lost
