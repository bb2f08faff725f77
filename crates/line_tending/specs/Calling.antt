-- How a set changes by its calls only.
use Rattle.std.specs.Prelude.{◌≡◌, ℕ, Bool, List, [], ◌∷◌, ◌++◌, Option, None, Some}
use Rattle.resend_store.specs.declared.messages.Msu.{Msu}
use Rattle.su_octets.specs.declared.units.Unit.{Unit}
use Rattle.link_processes.specs.declared.commands.Command.{Command}
use Rattle.link_transceiver.specs.declared.signals.Report.{Report}
use Rattle.group_changeover.specs.declared.changeover.Changeover.{Changeover}
use Rattle.link_group.specs.Changing.{fail_fault, after_failure, after_message, retrieve_fault_at}
use Rattle.link_group.specs.Changing.{after_retrieve, abandon_fault_at, after_abandon}
use Rattle.link_group.specs.Commanding.{Refused}
use Rattle.link_group.specs.Diverting.{after_divert}
use Rattle.link_group.specs.Doing.{Listened, Sent, Reported}
use Rattle.link_group.specs.Lines.{ByLink, ByCommand, Alone, after_admission}
use Rattle.link_group.specs.Placing.{rebalance_fault, rebalanced}
use Rattle.link_group.specs.declared.gone.Gone.{Gone}
use Rattle.link_group.specs.Reached.{Reached}
use Rattle.link_group.specs.Set.{LinkSet, send_fault, sent, bind_fault_at, bound_at}
use Rattle.link_group.specs.Ticks.{after_ticks}

-- A report that a link delivered.
pub record Handed : Type 0 where
  pub link : ℕ
  pub report : Report

-- A call of the set by which no link delivers a report.
pub data IsQuiet (c : LinkSet) : LinkSet → Type 0 where
  sends : (m : Msu) → send_fault c m ≡ None → IsQuiet c (sent c m)
  binds : (l : ℕ) (m : Msu) → bind_fault_at c l ≡ None → IsQuiet c (bound_at c l m)
  fails : (l : ℕ) → fail_fault c l ≡ None → IsQuiet c (after_failure c l)
  hears : (m : Option Changeover) → IsQuiet c (after_message c m)
  retrieves : (l : ℕ) → retrieve_fault_at c l ≡ None → IsQuiet c (after_retrieve c l)
  abandons : (l : ℕ) → abandon_fault_at c l ≡ None → IsQuiet c (after_abandon c l)
  diverts : (l : ℕ) → IsQuiet c (after_divert c l)
  rebalances : rebalance_fault c ≡ None → IsQuiet c (rebalanced c)
  listens : (d : LinkSet) (l : ℕ) (octets : List ℕ) (taken : ℕ)
      → ByLink (Listened octets taken) l c d → IsQuiet c d
  gives : (d : LinkSet) (l : ℕ) (unit : Option Unit) → ByLink (Sent unit) l c d → IsQuiet c d
  -- a link is asked for a report and has none
  asks : (d : LinkSet) (l : ℕ) → ByLink (Reported None) l c d → IsQuiet c d
  commands : (d : LinkSet) (l : ℕ) (command : Command) → ByCommand command l c d → IsQuiet c d
  refuses : (d : LinkSet) (l : ℕ) (command : Command) (refusal : _)
      → Alone (Refused command refusal) l c d → IsQuiet c d
  ticks : (n : ℕ) → IsQuiet c (after_ticks n c)
  admits : (l : ℕ) (way : Bool) → IsQuiet c (after_admission c l way)

-- Calls of the set in succession, in which links delivered these reports, in order.
pub data Delivers (c : LinkSet) : List Handed → LinkSet → Type 0 where
  no_call : Delivers c [] c
  quiet : {hs : List Handed} {d e : LinkSet} → Delivers c hs d → IsQuiet d e → Delivers c hs e
  one_report : {hs : List Handed} {d e : LinkSet} (h : Handed) → Delivers c hs d
      → ByLink (Reported (Some h.report)) h.link d e → Delivers c (hs ++ h ∷ []) e

-- Some list of calls leads from a new set to this one; in it `send` took these messages.
pub record Brought (c : LinkSet) (accepted : List Msu) : Type 0 where
  pub gone : List Gone
  pub reached : Reached c accepted gone

-- The new set came from the old one by calls of the set, in which `send` took these messages and
-- links delivered these reports: each list of calls that leads to the old set can be extended to
-- the new one.
pub record ByCalls (old : LinkSet) (taken : List Msu) (handed : List Handed) (new : LinkSet)
    : Type 0 where
  pub brought : (accepted : List Msu) → Brought old accepted → Brought new (accepted ++ taken)
  pub delivers : Delivers old handed new
