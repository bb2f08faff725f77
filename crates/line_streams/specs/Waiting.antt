-- Lines that wait for their reader.
use Rattle.std.specs.Prelude.{◌≡◌, ℕ, List, map}
use Rattle.line_filter.specs.Reporting.{ToldLine, count_in}
use Rattle.line_filter.specs.declared.reports.Wait.TheVariants.{Message, Answer}
use Rattle.line_streams.specs.declared.backlog.Waiting.{Waiting}

-- a waiting line
abbrev pub line_of : Waiting → ToldLine
line_of w = record { wait = w.wait; octets = w.octets.items }

abbrev pub lines_of : List Waiting → List ToldLine
lines_of ws = map line_of ws

-- The messages and the lines of answers among them are counted.
pub record IsCounted (ws : List Waiting) (messages answers : ℕ) : Type 0 where
  pub messages_are : messages ≡ count_in Message (lines_of ws)
  pub answers_are : answers ≡ count_in Answer (lines_of ws)
