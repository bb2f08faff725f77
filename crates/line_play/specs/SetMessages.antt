-- The messages for level 3 among the lines that a set on lines reported.
use Rattle.std.specs.Prelude.{◌≢◌, ℕ, ◌==◌, if◌then◌else◌, List, [], ◌∷◌, ◌++◌}
use Rattle.script_links.specs.resend_store_types.messages.Msu.{Msu}
use Rattle.line_filter.specs.Reporting.{ToldLine, kind_of, kept}
use Rattle.line_filter.specs.declared.reports.Wait.TheVariants.{Message}
use Rattle.line_tending.specs.Texts.{told_text}
use Rattle.line_tending.specs.declared.told.Told.{Told}
use Rattle.line_tending.specs.declared.told.Told.TheVariants as told
use Rattle.line_play.specs.SetSaying.{wait_of}

-- the lines of messages among reported lines
abbrev pub messages_in : List ToldLine → List ToldLine
messages_in [] = []
messages_in (l ∷ ls) =
    if kind_of l.wait == kind_of Message then l ∷ messages_in ls else messages_in ls

-- The lines report the messages among these reports of links: each once, in order, each with a
-- millisecond.
pub data TellMessages : List Told → List ToldLine → Type 0 where
  no_report : TellMessages [] []
  message : {reports : List Told} {lines : List ToldLine} (link : ℕ) (m : Msu) (now : ℕ)
      → TellMessages reports lines
      → TellMessages (reports ++ told.Message link m ∷ [])
      (lines ++ kept Message now (told_text (told.Message link m)))
  another : {reports : List Told} {lines : List ToldLine} (x : Told)
      → wait_of x ≢ Message → TellMessages reports lines
      → TellMessages (reports ++ x ∷ []) lines
