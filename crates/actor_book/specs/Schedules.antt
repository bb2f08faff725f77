-- Schedules: events and rebases of a link, in any order and of any length. The journal keeps no
-- rebase, and a rebase has no answer.
use Rattle.std.specs.Prelude.{◌≡◌, ◌↔◌, ℕ, ◌+◌, ◌-◌, ◌<◌, List, [], ◌∷◌, ◌++◌, length, map, None}
use Rattle.std.specs.Prelude.{nat_le, if◌then◌else◌}
use Rattle.plain_laws.specs.Limits.{LAST_PLACE}
use Rattle.turn_code.specs.Outcome.{Meaning, Means}
use Rattle.actor_machine.specs.Core.{outs}
use Rattle.actor_machine.specs.Kept.{IsKept, opened_book}
use Rattle.actor_machine.specs.Ledger.{Ledger, runs, state_by, state_of, next, ask, ask_by, rebased}
use Rattle.actor_machine.specs.Refusals.{refuses, needs}
use Rattle.actor_machine.specs.Step.{Answer, Says}
use Rattle.actor_machine.specs.declared.event.Event.{Event}
use Rattle.actor_machine.specs.declared.event.Event.TheVariants.{Offer, Begin, Skip, Finish}
use Rattle.actor_machine.specs.declared.event.Event.TheVariants.{Advance, TakeEnv}
use Rattle.actor_machine.specs.declared.reply.Refusal.TheVariants.{JournalFull}
use Rattle.actor_machine.specs.declared.reply.Reply.{Reply}
use Rattle.actor_machine.specs.declared.reply.Reply.TheVariants as reply
use Rattle.actor_book.specs.declared.schedule.Scheduled.{Scheduled}
use Rattle.actor_book.specs.declared.schedule.Scheduled.TheVariants as step

-- ---- runs

-- by a meaning of turns, the present state becomes the base, and the journal is empty
unfoldable pub rebased_by : Meaning → Ledger → Ledger
rebased_by m b = record b { base = state_by m b; first = next b; journal = [] }

-- the book after a step
abbrev pub stepped_by : Meaning → Ledger → Scheduled → Ledger
stepped_by m b (step.Event e) = (ask_by m b e).book
stepped_by m b step.Rebase = rebased_by m b

-- the answer to a step, if it is an event
abbrev pub answer_to : Meaning → Ledger → Scheduled → List Answer
answer_to m b (step.Event e) = (ask_by m b e).answer ∷ []
answer_to m b step.Rebase = []

-- the book after a schedule
abbrev pub scheduled_by : Meaning → Ledger → List Scheduled → Ledger
scheduled_by m b [] = b
scheduled_by m b (s ∷ ss) = scheduled_by m (stepped_by m b s) ss

-- the answers to the events of a schedule, in order
abbrev pub answers_on : Meaning → Ledger → List Scheduled → List Answer
answers_on m b [] = []
answers_on m b (s ∷ ss) = answer_to m b s ++ answers_on m (stepped_by m b s) ss

-- Memory ran out before the first step, or at a rebase. The steps before it were made, and no
-- others.
pub data IsCutShort (b : Ledger) (ss : List Scheduled) (c : Ledger) : Type 0 where
  at_once : c ≡ b → IsCutShort b ss c
  at_rebase : (made left : List Scheduled) → ss ≡ made ++ step.Rebase ∷ left
      → c ≡ scheduled_by (runs b.set) b made
      → IsCutShort b ss c

-- a schedule has the same answers and leaves the same book in the same state, by the code of the
-- set and by any meaning of the set
pub record IsSameByText (act : Meaning) (b : Ledger) (ss : List Scheduled) : Type 0 where
  pub answers : answers_on act b ss ≡ answers_on (runs b.set) b ss
  pub book : scheduled_by act b ss ≡ scheduled_by (runs b.set) b ss
  pub state : state_by act (scheduled_by act b ss) ≡ state_of (scheduled_by (runs b.set) b ss)

abbrev pub ByTextLaw : Type 0
ByTextLaw = (act : Meaning) (b : Ledger) (ss : List Scheduled) → IsKept b → Means act b.set
    → IsSameByText act b ss

-- a schedule keeps the invariant of every book, the set of processes and the limit of the journal
pub record IsKeptAlong (b : Ledger) (ss : List Scheduled) : Type 0 where
  pub kept : IsKept (scheduled_by (runs b.set) b ss)
  pub set : (scheduled_by (runs b.set) b ss).set ≡ b.set
  pub limit : (scheduled_by (runs b.set) b ss).limit ≡ b.limit

abbrev pub KeptLaw : Type 0
KeptLaw = (b : Ledger) (ss : List Scheduled) → IsKept b → IsKeptAlong b ss

-- from its opening with its set on, with these limits of ports and of the environment and with its
-- limit of the journal, this schedule led to the book
pub record HasHistory (b : Ledger) : Type 0 where
  pub port : ℕ
  pub env : ℕ
  pub steps : List Scheduled
  pub book : b ≡ scheduled_by (runs b.set) (opened_book b.set port env b.limit) steps

-- ---- the use of the journal, as the answers tell it

-- how many events were accepted since the last rebase, and in all; how many turns are out
pub record Used : Type 0 where
  pub since : ℕ
  pub in_all : ℕ
  pub out : ℕ

abbrev pub unused : Used
unused = record { since = 0; in_all = 0; out = 0 }

-- how many turns are out after an accepted event
abbrev pub out_after : Event → ℕ → ℕ
out_after (Offer o) out = out
out_after (Begin n) out = out + 1
out_after (Skip n) out = out
out_after (Finish n) out = out - 1
out_after (Advance k) out = out
out_after TakeEnv out = out

abbrev pub taking : Used → Event → Used
taking u e = record { since = u.since + 1; in_all = u.in_all + 1; out = out_after e u.out }

-- an event with any answer but a refusal was accepted
abbrev pub used_after : Used → Event → Reply → Used
used_after u e reply.Offered = taking u e
used_after u e (reply.Begun x) = taking u e
used_after u e (reply.Skipped t) = taking u e
used_after u e (reply.Finished x) = taking u e
used_after u e (reply.Passed due) = taking u e
used_after u e (reply.Taken x) = taking u e
used_after u e (reply.Refused r) = u

abbrev pub used_rebased : Used → Used
used_rebased u = record { since = 0; in_all = u.in_all; out = u.out }

-- the number of free places: each turn that is out keeps one, and none is free after the last place
abbrev pub places_free : ℕ → Used → ℕ
places_free limit u = if nat_le LAST_PLACE u.in_all then 0 else limit - (u.since + u.out)

-- the use of the journal of a book
abbrev pub used_in : Ledger → Used
used_in b =
    record { since = length b.journal; in_all = next b; out = outs (state_of b).actors }

-- ---- each event of a schedule

-- P holds of each event of a schedule: of the use of the journal and the book before it, of the
-- event, and of its reply. There are as many replies as events.
abbrev pub EachAnswer : (Used → Ledger → Event → Reply → Type 0) → Used → Ledger
    → List Scheduled → List Reply → Type 0
EachAnswer P u b [] [] = Unit {0}
EachAnswer P u b [] (r ∷ rs) = ⊥
EachAnswer P u b (step.Event e ∷ ss) [] = ⊥
EachAnswer P u b (step.Event e ∷ ss) (r ∷ rs) =
    P u b e r × EachAnswer P (used_after u e r) (ask b e).book ss rs
EachAnswer P u b (step.Rebase ∷ ss) rs = EachAnswer P (used_rebased u) (rebased b) ss rs

-- the link would accept the event, but fewer places are free than it needs: no rebase came in time
pub record LacksRoom (limit : ℕ) (u : Used) (b : Ledger) (e : Event) : Type 0 where
  pub else_taken : refuses b.set (state_of b) e ≡ None
  pub short : places_free limit u < needs e

-- the reply is B8 JournalFull exactly if room is lacking
abbrev pub IsToldOfRoom : ℕ → Used → Ledger → Event → Reply → Type 0
IsToldOfRoom limit u b e r = (r ≡ reply.Refused JournalFull) ↔ LacksRoom limit u b e

-- so it is for each event of a schedule
abbrev pub RoomLaw : Type 0
RoomLaw = (b : Ledger) (ss : List Scheduled) (rs : List Reply) → IsKept b
    → map Says rs ≡ answers_on (runs b.set) b ss
    → EachAnswer (IsToldOfRoom b.limit) (used_in b) b ss rs
