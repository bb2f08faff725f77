-- Which of the reports of links are passed on, and in which order.
use Rattle.std.specs.Prelude.{ℕ, List, [], ◌∷◌, ◌++◌, Bool, true, false, nat_le, if◌then◌else◌}
use Rattle.std.specs.List.{flat_map}
use Rattle.resend_store.specs.declared.messages.Msu.{Msu}
use Rattle.link_transceiver.specs.declared.signals.LinkStatus.{LinkStatus}
use Rattle.link_transceiver.specs.declared.signals.LinkStatus.TheVariants as status
use Rattle.link_transceiver.specs.declared.signals.Report.{Report}
use Rattle.link_transceiver.specs.declared.signals.Report.TheVariants as report
use Rattle.line_tending.specs.Came.{came}
use Rattle.line_tending.specs.declared.came.Came.{Came}
use Rattle.line_tending.specs.declared.came.Came.TheVariants.{Message, Changeover, Declaration}
use Rattle.line_tending.specs.declared.came.Came.TheVariants.{Test, Answer, Own}
use Rattle.line_tending.specs.declared.tended_set.TendPlan.{TendPlan}
use Rattle.line_tending.specs.declared.told.Told.{Told}
use Rattle.line_tending.specs.declared.told.Told.TheVariants as told

-- A message is for level 3, by its kind; so are a declaration and a test about no link of the set.
abbrev pub is_for_user_by : ℕ → Came → Bool
is_for_user_by links Message = true
is_for_user_by links (Changeover about kind) = false
is_for_user_by links (Declaration about code) = nat_le links about
is_for_user_by links (Test about) = nat_le links about
is_for_user_by links (Answer about) = false
is_for_user_by links Own = false

abbrev pub is_for_user : TendPlan → Msu → Bool
is_for_user p m = is_for_user_by p.links (came p.ends m)

-- The report for a message received on a link; none if it isn't for level 3.
abbrev pub message_told : TendPlan → ℕ → Msu → List Told
message_told p link m = if is_for_user p m then told.Message link m ∷ [] else []

-- The report for a change of a link; there is none for cleared buffers.
abbrev pub status_told : ℕ → LinkStatus → List Told
status_told link status.InService = told.InService link ∷ []
status_told link (status.Down reason) = told.Down link reason ∷ []
status_told link status.RemoteOut = told.FarOut link ∷ []
status_told link status.RemoteBack = told.FarBack link ∷ []
status_told link status.Cleared = []

-- The reports made for a report of a link.
abbrev pub report_told : TendPlan → ℕ → Report → List Told
report_told p link (report.Message m) = message_told p link m
report_told p link (report.Status s) = status_told link s

-- The report itself, if it passes on a report of a link.
abbrev pub report_in : Told → List Told
report_in (told.Message link m) = told.Message link m ∷ []
report_in (told.InService link) = told.InService link ∷ []
report_in (told.Down link reason) = told.Down link reason ∷ []
report_in (told.FarOut link) = told.FarOut link ∷ []
report_in (told.FarBack link) = told.FarBack link ∷ []
report_in (told.Started link) = []
report_in (told.Changeover link) = []
report_in (told.Says link kind by_link) = []
report_in (told.Hears link kind by_link) = []
report_in (told.Unsure link count) = []
report_in (told.Diverted link count) = []
report_in (told.Tested link) = []
report_in (told.Looped link) = []
report_in (told.Shared shared) = []
report_in told.ReaderAway = []
report_in told.ReaderBack = []

-- The report itself, if it says that the reader is away or back.
abbrev pub news_by : Told → List Told
news_by (told.Message link m) = []
news_by (told.InService link) = []
news_by (told.Down link reason) = []
news_by (told.FarOut link) = []
news_by (told.FarBack link) = []
news_by (told.Started link) = []
news_by (told.Changeover link) = []
news_by (told.Says link kind by_link) = []
news_by (told.Hears link kind by_link) = []
news_by (told.Unsure link count) = []
news_by (told.Diverted link count) = []
news_by (told.Tested link) = []
news_by (told.Looped link) = []
news_by (told.Shared shared) = []
news_by told.ReaderAway = told.ReaderAway ∷ []
news_by told.ReaderBack = told.ReaderBack ∷ []

-- The reports that the reader is away or back, in order.
abbrev pub news_in : List Told → List Told
news_in ts = flat_map news_by ts

-- The reports that pass on reports of links, in order.
abbrev pub reports_in : List Told → List Told
reports_in ts = flat_map report_in ts
