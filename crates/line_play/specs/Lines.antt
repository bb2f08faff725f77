-- A signalling link terminal on a line.
use Rattle.std.specs.Prelude.{◌≡◌, None}
use Rattle.script_lines.specs.Words.{words_of}
use Rattle.script_ends.specs.Term.{Term}
use Rattle.line_filter.specs.Acts.{Act, asked, heard, passed, reported as told, obeyed}
use Rattle.line_filter.specs.Speaking.{IsSilent}
use Rattle.line_filter.specs.declared.desk.Desk.{Desk}
use Rattle.line_play.specs.InTurn.{Tells}
use Rattle.line_play.specs.LinkActs.{Gives, Hears, Passes, asks_all, ObeysWords}
use Rattle.line_play.specs.declared.link.end.LinkEnd.{LinkEnd}

-- an act of a terminal at the end of a line; only reporting changes the held message
abbrev pub end_acts : LinkEnd → Act → LinkEnd → Type 0
end_acts l (asked unit) m = Gives l.terminal unit m.terminal × (m.held ≡ l.held)
end_acts l (heard octet) m = Hears l.terminal octet m.terminal × (m.held ≡ l.held)
end_acts l passed m = Passes l.terminal m.terminal × (m.held ≡ l.held)
end_acts l (told text) m = Tells l text m
end_acts l (obeyed order answer) m =
    ObeysWords (asks_all (words_of order)) (words_of order) l.terminal order answer m.terminal
    × (m.held ≡ l.held)

-- a terminal on a line, with these orders and reports: no octet was received or sent, and no
-- report waits
pub record IsNewDesk {O P : Type 0} (terminal : Term) (orders : O) (reports : P)
    (desk : Desk LinkEnd O P) : Type 0 where
  pub terminal_is : desk.terminal.terminal ≡ terminal
  pub none_held : desk.terminal.held ≡ None
  pub voice : IsSilent desk.voice
  pub orders_are : desk.orders ≡ orders
  pub reports_are : desk.reports ≡ reports
  pub count : desk.count ≡ 0
