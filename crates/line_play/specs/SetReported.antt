-- The messages that links delivered along a run of a link set, and the lines that report them.
use Rattle.std.specs.Prelude.{◌≡◌, ℕ, ◌+◌, if◌then◌else◌, false, List, [], ◌∷◌, ◌++◌}
use Rattle.std.specs.Fmt.{decimal}
use Rattle.std.specs.Io.KnownBytes.{Appends}
use Rattle.std.specs.List.{flat_map}
use Rattle.script_links.specs.resend_store_types.messages.Msu.{Msu}
use Rattle.link_transceiver.specs.declared.signals.Report.{Report}
use Rattle.link_transceiver.specs.declared.signals.Report.TheVariants as report
use Rattle.line_filter.specs.Reporting.{ToldLine, Stand, whole, queued, octets_of, has_to_wait}
use Rattle.line_filter.specs.Reporting.{IsToGo, GoFirst}
use Rattle.line_filter.specs.declared.reports.Wait.TheVariants.{Message}
use Rattle.line_tending.specs.Calling.{ByCalls, Handed}
use Rattle.line_tending.specs.Telling.{is_for_user}
use Rattle.line_tending.specs.Tended.{Tended}
use Rattle.line_tending.specs.Texts.{told_text}
use Rattle.line_tending.specs.declared.tended_set.TendPlan.{TendPlan}
use Rattle.line_tending.specs.declared.told.Told.TheVariants as told
use Rattle.line_play.specs.SetMessages.{messages_in}

-- ---- the messages that links delivered

-- a message for level 3, and the link that delivered it
pub record Delivered : Type 0 where
  pub link : ℕ
  pub message : Msu

abbrev pub delivered_in : TendPlan → ℕ → Report → List Delivered
delivered_in p link (report.Message m) =
    if is_for_user p m then record { link = link; message = m } ∷ [] else []
delivered_in p link (report.Status s) = []

-- those among the reports that links delivered, in order
abbrev pub delivered : TendPlan → List Handed → List Delivered
delivered p hs = flat_map (λ (h : Handed). delivered_in p h.link h.report) hs

-- ---- the lines that report them

-- the line that reports a message, with its line feed
abbrev pub message_line : ℕ → Delivered → List ℕ
message_line now d =
    (decimal now ++ 32 ∷ told_text (told.Message d.link d.message)) ++ 10 ∷ []

-- Each message is reported by one line, in order. Before that line may stand the number of lines
-- that were lost before it; these are no messages.
pub data ReportEach : List Delivered → List ToldLine → Type 0 where
  no_message : ReportEach [] []
  one_message : {before : List Delivered} {lines : List ToldLine} (d : Delivered)
      (now lost : ℕ) (text : List ℕ) → ReportEach before lines
      → IsToGo lost (message_line now d) text
      → ReportEach (before ++ d ∷ []) (lines ++ record { wait = Message; octets = text } ∷ [])

-- ---- the lines that are kept

-- Of the lines reported while their reader may be away, these are kept: each that has to wait, once
-- and in order. Each other one is kept in its place too, or lost. Before a line stands the number
-- of lines lost since the line before it.
pub data AreKept (lost : ℕ) : List ToldLine → List ToldLine → ℕ → Type 0 where
  none_kept : AreKept lost [] [] lost
  one_kept : {lines keep : List ToldLine} {more : ℕ} (line : ToldLine) (text : List ℕ)
      → AreKept lost lines keep more → IsToGo more line.octets text
      → AreKept lost (lines ++ line ∷ []) (keep ++ record { wait = line.wait; octets = text } ∷ [])
      0
  one_lost : {lines keep : List ToldLine} {more : ℕ} (line : ToldLine)
      → AreKept lost lines keep more → has_to_wait line.wait ≡ false
      → AreKept lost (lines ++ line ∷ []) keep (more + 1)

-- The lines that are kept are written; or they wait after those that waited before, and of all
-- these the first are written. So each is written or still waits.
abbrev pub AreWritten : Stand → Stand → List ToldLine → List ToldLine → Type 0
AreWritten (whole old) (whole new) lines keep = (keep ≡ lines) × Appends old new (octets_of keep)
AreWritten (whole old) (queued gone waits lost) lines keep = ⊥
AreWritten (queued gone waits lost) (whole new) lines keep = ⊥
AreWritten (queued gone waits lost) (queued later left more) lines keep =
    AreKept lost lines keep more × GoFirst gone (waits ++ keep) later left

-- ---- both together

-- no report of a set is left
abbrev pub NoneIsLeft : Tended → Type 0
NoneIsLeft t = t.reports ≡ []

-- By calls of the set, in which `send` took these messages, links delivered reports. Of these lines
-- some are kept, and are written or wait. Among these, one line for each message that links
-- delivered for level 3 reports it, in order.
pub record AreReported (old new : Tended) (took : List Msu) (before after : Stand)
    (lines : List ToldLine) : Type 0 where
  pub handed : List Handed
  pub calls : ByCalls old.set took handed new.set
  pub keep : List ToldLine
  pub written : AreWritten before after lines keep
  pub reports : ReportEach (delivered old.plan handed) (messages_in keep)
