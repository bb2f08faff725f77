-- Ticks pass at the links of a set.
use Rattle.std.specs.Prelude.{◌≡◌, ℕ, ◌-◌, ◌^◌, min, true, false, List, [], ◌∷◌, ◌++◌, map, sum_by}
use Rattle.std.specs.Prelude.{take, drop, Option, Some, None, slice_get}
use Rattle.actor_machine.specs.Ledger.{ask}
use Rattle.actor_machine.specs.Step.{Answer, Stuck, Says}
use Rattle.actor_machine.specs.declared.event.Event.TheVariants.{Advance}
use Rattle.actor_machine.specs.declared.reply.Refusal.{Refusal}
use Rattle.actor_machine.specs.declared.reply.Reply.{Reply}
use Rattle.actor_machine.specs.declared.reply.Reply.TheVariants as reply
use Rattle.link_processes.specs.Machine.{is_low, tidied, offered, tick_refusal}
use Rattle.link_term.specs.Term.{ledger_of, with_processes}
use Rattle.group_changeover.specs.Availability.{waits}
use Rattle.link_group.specs.declared.link.Link.{Link}

-- ---- room

-- Room is made in a link's journal, if needed.
abbrev pub roomy : Link → Link
roomy k = record k { terminal = with_processes k.terminal (tidied k.terminal.processes) }

-- a link's journal has enough room
abbrev pub HasRoom : Link → Type 0
HasRoom k = is_low k.terminal.processes ≡ false

-- Memory ran out for a link that needed it. Room was made at the links before it, and nothing else
-- changed.
pub record LacksRoom (old new : List Link) : Type 0 where
  pub front : ℕ
  pub lacking : Link
  pub there : slice_get old front ≡ Some lacking
  pub low : is_low lacking.terminal.processes ≡ true
  pub links : new ≡ map roomy (take front old) ++ drop front old

-- ---- whether ticks can pass

abbrev pub first_some : Option Refusal → Option Refusal → Option Refusal
first_some None other = other
first_some (Some refusal) other = Some refusal

-- the refusal of the first link that has one
unfoldable pub first_refusal : ℕ → List Link → Option Refusal
first_refusal n [] = None
first_refusal n (k ∷ ks) = first_some (tick_refusal n k.terminal.processes) (first_refusal n ks)

-- ---- ticks pass

-- Ticks pass at a link's terminal, and a changeover there has gone on for longer.
abbrev pub passed : ℕ → Link → Link
passed n k =
    record k {
      terminal = with_processes k.terminal (offered (Advance n) k.terminal.processes);
      availability = waits n k.availability;
    }

abbrev pub due_by : Reply → ℕ
due_by (reply.Passed due) = due
due_by _ = 0

abbrev pub due_in : Answer → ℕ
due_in (Stuck x) = 0
due_in (Says r) = due_by r

-- how many timers the ticks make due
abbrev pub due_at : ℕ → Link → ℕ
due_at n k = due_in (ask (ledger_of k.terminal) (Advance n)).answer

-- how many timers are due on all links, up to the greatest number
unfoldable pub all_due : ℕ → List Link → ℕ
all_due n ks = min (2 ^ 64 - 1) (sum_by (due_at n) ks)
