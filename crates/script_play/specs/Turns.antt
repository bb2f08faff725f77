-- What the script of a book does on a set is what the set's text says.
use Rattle.std.specs.Prelude.{ℕ, List, Option}
use Rattle.sdl_ast.specs.Plain.{PlainBlock}
use Rattle.turn_code.specs.declared.draft.Draft.{Draft}
use Rattle.actor_machine.specs.Ledger.{Ledger}
use Rattle.link_whole.specs.Laws.{IsSoundSet, EventsAsRead}
use Rattle.link_whole.specs.Limits.{LimitNumbers}
use Rattle.script_lines.specs.Scripts.{PlainSaid, AreInRange}
use Rattle.script_lines.specs.declared.settings.Settings.{Settings}
use Rattle.script_book.specs.Played.{first_book, Goes}

-- the limits that the first lines of a script set
abbrev pub limits_in : Settings → LimitNumbers
limits_in s = record { port = s.ports; env = s.env; journal = s.journal }

-- The journal that the commands of a book's script leave has each event that they made, since a
-- script never rebases. From the opening on each event is as the text says: the item with which a
-- turn begins, the item that is discarded, the end of a turn, its count, and the outputs that are
-- lost.
abbrev pub HasTurnsOf : PlainBlock → Draft → Type 0
HasTurnsOf b d =
    (s : Settings) (commands : List PlainSaid) (lines : List (List ℕ)) (now : Ledger)
    (last : Option (List ℕ))
    → AreInRange s → Goes (first_book d s) commands lines now last
    → EventsAsRead b d (limits_in s) now.journal now

-- so it is by the sound block whose set this is
abbrev pub HasTurns : Draft → Type 0
HasTurns d = (b : PlainBlock) → IsSoundSet b d → HasTurnsOf b d
