-- One turn of a link, and rests. An actor can have a turn if the book accepts its Begin. It can
-- also if the book refuses that because an item has to be thrown away first (B11), and accepts its
-- Skip. If only the journal lacks room (B8), the actor is blocked. Otherwise it can do nothing.
use Rattle.std.specs.Prelude.{ℕ, zero, suc, ◌+◌, Option, Some, None, length}
use Rattle.actor_machine.specs.Ledger.{Ledger, state_of, ask}
use Rattle.actor_machine.specs.Step.{Answer, Stuck, Says}
use Rattle.actor_machine.specs.declared.event.Event.TheVariants.{Begin, Skip, Finish}
use Rattle.actor_machine.specs.declared.reply.Refusal.{Refusal}
use Rattle.actor_machine.specs.declared.reply.Refusal.TheVariants.{JournalFull, SkipFirst}
use Rattle.actor_machine.specs.declared.reply.Reply.{Reply}
use Rattle.actor_machine.specs.declared.reply.Reply.TheVariants.{Refused}
use Rattle.actor_book.specs.declared.turn.Turn.{Turn}
use Rattle.actor_book.specs.declared.turn.Turn.TheVariants.{Made, Blocked, Idle}

-- the book after a try, and the try's result
pub record Tried : Type 0 where
  pub book : Ledger
  pub turn : Turn

-- a refusal for lack of journal room blocks; after any other the actor can do nothing
abbrev pub turn_refused : Refusal → Turn
turn_refused JournalFull = Blocked
turn_refused _ = Idle

-- nothing happens
abbrev pub stays : Ledger → Turn → Tried
stays b t = record { book = b; turn = t }

-- why an event was refused, if it was
abbrev pub refusal_by : Reply → Option Refusal
refusal_by (Refused r) = Some r
refusal_by _ = None

abbrev pub refusal_in : Answer → Option Refusal
refusal_in (Stuck x) = None
refusal_in (Says r) = refusal_by r

abbrev pub skips_by : Ledger → Ledger → Option Refusal → Tried
skips_by b c None = record { book = c; turn = Made }
skips_by b c (Some r) = stays b (turn_refused r)

-- an item that the actor's state has no input for is thrown away
abbrev pub skips : ℕ → Ledger → Tried
skips n b = skips_by b (ask b (Skip n)).book (refusal_in (ask b (Skip n)).answer)

-- a turn that began ends as the set's own code does it
abbrev pub ends : ℕ → Ledger → Tried
ends n c = record { book = (ask c (Finish n)).book; turn = Made }

abbrev pub by_refusal : ℕ → Ledger → Refusal → Tried
by_refusal n b SkipFirst = skips n b
by_refusal n b r = stays b (turn_refused r)

abbrev pub begins_by : ℕ → Ledger → Ledger → Option Refusal → Tried
begins_by n b c None = ends n c
begins_by n b c (Some r) = by_refusal n b r

-- actor n has a whole turn, or throws an item away, if it can; otherwise nothing happens, and the
-- result says why
unfoldable pub tried : ℕ → Ledger → Tried
tried n b = begins_by n b (ask b (Begin n)).book (refusal_in (ask b (Begin n)).answer)

-- how many actors a link has
abbrev pub actors_in : Ledger → ℕ
actors_in b = length (state_of b).actors

-- the first try if it isn't Idle, otherwise the second
abbrev pub first_that : Tried → Tried → Turn → Tried
first_that t u Made = t
first_that t u Blocked = t
first_that t u Idle = u

-- the first try that isn't Idle, of so many actors from number n on
unfoldable pub first_from : ℕ → ℕ → Ledger → Tried
first_from zero n b = stays b Idle
first_from (suc k) n b = first_that (tried n b) (first_from k (n + 1) b) (tried n b).turn

-- the turn of the least actor that can
unfoldable pub least_turn : Ledger → Tried
least_turn b = first_from (actors_in b) 0 b

-- how many turns a rest has at most
abbrev pub MOST_TURNS : ℕ
MOST_TURNS = 10000

-- a book after a rest, and how many turns there were
pub record Rested : Type 0 where
  pub book : Ledger
  pub turns : ℕ

abbrev pub one_more : Rested → Rested
one_more r = record { book = r.book; turns = r.turns + 1 }

abbrev pub goes_on : Ledger → Rested → Turn → Rested
goes_on b r Made = one_more r
goes_on b r Blocked = record { book = b; turns = 0 }
goes_on b r Idle = record { book = b; turns = 0 }

-- turn after turn, at most so many
unfoldable pub rests : ℕ → Ledger → Rested
rests zero b = record { book = b; turns = 0 }
rests (suc k) b = goes_on b (rests k (least_turn b).book) (least_turn b).turn
