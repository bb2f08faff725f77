-- The text of a terminal's reports: about its link, and of messages.
use Rattle.std.specs.Prelude.{ℕ, List, ◌∷◌, ◌++◌, Option, None, Some, codes}
use Rattle.std.specs.Fmt.{signed_decimal}
use Rattle.hex.specs.Hex.{encode_upper}
use Rattle.resend_store.specs.declared.messages.Msu.{Msu}
use Rattle.link_transceiver.specs.declared.signals.Report.{Report}
use Rattle.link_transceiver.specs.declared.signals.Report.TheVariants.{Message, Status}
use Rattle.link_transceiver.specs.declared.signals.LinkStatus.{LinkStatus}
use Rattle.link_transceiver.specs.declared.signals.LinkStatus.TheVariants.{InService, Down}
use Rattle.link_transceiver.specs.declared.signals.LinkStatus.TheVariants.{RemoteOut, RemoteBack}
use Rattle.link_transceiver.specs.declared.signals.LinkStatus.TheVariants.{Cleared}

abbrev pub status_text : LinkStatus → List ℕ
status_text InService = codes "in service"
status_text (Down reason) = codes "down " ++ signed_decimal reason
status_text RemoteOut = codes "far out"
status_text RemoteBack = codes "far back"
status_text Cleared = codes "cleared"

-- a message's octets are its service information octet and its signalling information field
abbrev pub message_text : Msu → List ℕ
message_text m = codes "message " ++ encode_upper (m.sio ∷ m.sif.items)

unfoldable pub report_text : Report → List ℕ
report_text (Message m) = message_text m
report_text (Status status) = status_text status

-- The line that a script prints for the next report.
abbrev pub told_line : Option Report → List ℕ
told_line None = codes "nothing"
told_line (Some report) = report_text report
