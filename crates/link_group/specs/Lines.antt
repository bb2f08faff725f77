-- What a set does with one of its terminals, and with a link that comes into service.
use Rattle.std.specs.Prelude.{◌≡◌, ℕ, ◌+◌, ◌-◌, ◌^◌, min, ◌≤◌, Bool, List, ◌++◌, length, map}
use Rattle.std.specs.Prelude.{slice_get}
use Rattle.std.specs.List.{list_any}
use Rattle.link_group.specs.declared.link.Link.{Link}
use Rattle.link_group.specs.Gone.{acknowledged, unsure, left_of}
use Rattle.link_group.specs.Set.{LinkSet}
use Rattle.link_group.specs.Links.{change}
use Rattle.link_processes.specs.declared.commands.Command.{Command}
use Rattle.link_group.specs.declared.commanding.CommandError.{CommandError}
use Rattle.link_group.specs.declared.commanding.CommandError.TheVariants as error
use Rattle.link_group.specs.Commanding.{cleared_at, Commanded, Barred, Refused, Lacks}
use Rattle.link_group.specs.Placing.{table_if}
use Rattle.link_group.specs.Doing.{AtLink, asked, came_first, came_by, admits_at, admits_by}

-- ---- a link comes into service

-- The table is remade if the link is in service, not held, and admitted for the first time.
unfoldable pub seen : ℕ → LinkSet → LinkSet
seen l c =
    record c {
      links = change c.links l asked;
      table = table_if (came_by (slice_get c.links l)) (change c.links l asked) c.table;
    }

unfoldable pub all_seen : LinkSet → LinkSet
all_seen c =
    record c {
      links = map asked c.links;
      table = table_if (list_any came_first c.links) (map asked c.links) c.table;
    }

-- ---- level 3 admits a link

-- The link is admitted, or no longer. The table is remade if it is in service, not held, and
-- admitted for the first time.
unfoldable pub after_admission : LinkSet → ℕ → Bool → LinkSet
after_admission c l way =
    record c {
      links = change c.links l (admits_at way);
      table =
          table_if (admits_by way (slice_get c.links l)) (change c.links l (admits_at way)) c.table;
    }

-- ---- a call of one terminal

-- A call of the terminal of the link at a place, and the effect if the link comes into service by
-- it. Messages that leave the link in it are acknowledged.
pub record ByLink (did : Link → Link → Type 0) (l : ℕ) (c d : LinkSet) : Type 0 where
  pub links : List Link
  pub at : AtLink did l c.links links
  pub set :
      d
      ≡ seen l (record c {
        links = links;
        gone = c.gone ++ acknowledged (left_of at.before at.after);
      })

-- a call of the terminal of the link at a place, with no other change
pub record Alone (did : Link → Link → Type 0) (l : ℕ) (c d : LinkSet) : Type 0 where
  pub links : List Link
  pub at : AtLink did l c.links links
  pub set : d ≡ record c { links = links }

-- ---- commands

-- A command to the terminal of the link at a place. Messages cleared by its text have left and
-- count as unsure, except those bound to the link; the count stops at its greatest value.
pub record ByCommand (command : Command) (l : ℕ) (c d : LinkSet) : Type 0 where
  pub links : List Link
  pub at : AtLink (Commanded command) l c.links links
  pub set :
      d
      ≡ seen l (record c {
        links = links;
        unsure = min (2 ^ 64 - 1) (c.unsure + length (cleared_at command (slice_get c.links l)));
        gone = c.gone ++ unsure (cleared_at command (slice_get c.links l));
      })

-- Why a command was refused, and the set then. Nothing changed, except that the journal of a
-- terminal that refused it may have room now.
abbrev pub IsCommandError : Command → ℕ → LinkSet → LinkSet → CommandError → Type 0
IsCommandError command l c d error.NoLink = (length c.links ≤ l) × (d ≡ c)
IsCommandError command l c d error.Waiting = Alone (Barred command) l c d × (d ≡ c)
IsCommandError command l c d (error.Refused refusal) = Alone (Refused command refusal) l c d
IsCommandError command l c d error.NoMemory = Alone (Lacks command) l c d × (d ≡ c)
