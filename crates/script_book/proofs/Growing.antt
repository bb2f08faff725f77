-- What a command of a script does to a book is a list of events, which the journal gets.
use Rattle.std.proofs.Common.{◌≡◌, ℕ, zero, suc, ◌+◌, List, [], ◌∷◌, ◌++◌, Option, Some, None, refl, sym, ap, ◌∙◌, subst, append_assoc}
use Rattle.std.proofs.lemmas.List.{append-nil}
use Rattle.turn_code.specs.declared.draft.Draft.{Draft}
use Rattle.turn_code.specs.declared.value.Value.{Value}
use Rattle.actor_machine.specs.Laws.{SetLaw}
use Rattle.actor_machine.specs.Ledger.{Ledger, runs, ask, ask_by, after_by}
use Rattle.actor_machine.specs.declared.event.Event.{Event}
use Rattle.actor_machine.specs.declared.event.Event.TheVariants as event
use Rattle.actor_machine.specs.declared.reply.Refusal.{Refusal}
use Rattle.actor_machine.specs.declared.reply.Refusal.TheVariants as refusal
use Rattle.actor_book.specs.Accepted.{refusal_of}
use Rattle.actor_book.specs.Turns.{Tried, Rested, stays, tried, begins_by, by_refusal, skips, skips_by, ends, refusal_in, first_from, first_that, actors_in, least_turn, rests, goes_on, MOST_TURNS}
use Rattle.actor_book.specs.declared.turn.Turn.{Turn}
use Rattle.actor_book.specs.declared.turn.Turn.TheVariants.{Made, Blocked, Idle}
use Rattle.actor_book.proofs.Taking.{stays as refused_stays, grows}
use Rattle.script_lines.specs.Commands.{PlainOffer, PlainCommand, offer, flood, call, tick, env, rest, value, expect}
use Rattle.script_lines.specs.declared.verbs.Call.{Call}
use Rattle.script_lines.specs.declared.verbs.Call.TheVariants.{Begin, Finish, Skip, State}
use Rattle.script_lines.specs.declared.word.Called.{Called}
use Rattle.script_lines.specs.Scripts.{PlainSaid}
use Rattle.script_book.specs.Answers.{obeyed, offered, offered_by, floods, flooded, looked_up, calls, called, actor_named, signal_named, Took}
use Rattle.script_book.specs.Answers as answers
use Rattle.script_book.specs.Played.{Goes, begins, prints, holds}

-- the second book is the first one after these events, and its journal has each of them
pub record IsGrown (b c : Ledger) : Type 0 where
  pub set : c.set ≡ b.set
  pub events : List Event
  pub book : c ≡ after_by (runs b.set) b events
  pub journal : c.journal ≡ b.journal ++ events

pub grown_not : (b : Ledger) → IsGrown b b
grown_not b = record { set = refl; events = []; book = refl; journal = sym (append-nil b.journal) }

after_both : (d : Draft) (b : Ledger) (es fs : List Event) → after_by (runs d) b (es ++ fs) ≡ after_by (runs d) (after_by (runs d) b es) fs
after_both d b [] fs = refl
after_both d b (e ∷ es) fs = after_both d (ask_by (runs d) b e).book es fs

pub grown_then : (a b c : Ledger) → IsGrown a b → IsGrown b c → IsGrown a c
grown_then a b c g h = record {
  set = h.set ∙ g.set;
  events = g.events ++ h.events;
  book = h.book ∙ ap (λ (d : Draft). after_by (runs d) b h.events) g.set ∙ ap (λ (x : Ledger). after_by (runs a.set) x h.events) g.book
      ∙ sym (after_both a.set a g.events h.events);
  journal = h.journal ∙ ap (λ (es : List Event). es ++ h.events) g.journal ∙ append_assoc a.journal g.events h.events;
}

module _ (sets : SetLaw) where
  pub grown_ask : (b : Ledger) (e : Event) → IsGrown b (ask b e).book
  grown_ask b e = by (refusal_of b e) refl
    where
      by : (o : Option Refusal) → refusal_of b e ≡ o → IsGrown b (ask b e).book
      by None none = record { set = sets.asks b e; events = e ∷ []; book = refl; journal = ap (λ (x : Ledger). x.journal) (grows b e none) }
      by (Some r) some = subst (λ (x : Ledger). IsGrown b x) (sym (refused_stays b e r some)) (grown_not b)

  -- ---- turns and rests

  grown_skips : (n : ℕ) (b : Ledger) → IsGrown b (skips n b).book
  grown_skips n b = by (refusal_in (ask b (event.Skip n)).answer)
    where
      by : (o : Option Refusal) → IsGrown b (skips_by b (ask b (event.Skip n)).book o).book
      by None = grown_ask b (event.Skip n)
      by (Some r) = grown_not b

  grown_refused : (n : ℕ) (b : Ledger) (r : Refusal) → IsGrown b (by_refusal n b r).book
  grown_refused n b refusal.SkipFirst = grown_skips n b
  grown_refused n b refusal.Full = grown_not b
  grown_refused n b refusal.Stopped = grown_not b
  grown_refused n b refusal.NoRoute = grown_not b
  grown_refused n b refusal.Busy = grown_not b
  grown_refused n b refusal.Nothing = grown_not b
  grown_refused n b refusal.Stranger = grown_not b
  grown_refused n b refusal.Empty = grown_not b
  grown_refused n b refusal.JournalFull = grown_not b
  grown_refused n b refusal.CountFull = grown_not b
  grown_refused n b refusal.NoActor = grown_not b
  grown_refused n b refusal.NotIgnored = grown_not b
  grown_refused n b refusal.TooFar = grown_not b
  grown_refused n b refusal.ClockFull = grown_not b

  grown_tried : (n : ℕ) (b : Ledger) → IsGrown b (tried n b).book
  unfolding tried
  grown_tried n b = by (refusal_in (ask b (event.Begin n)).answer)
    where
      by : (o : Option Refusal) → IsGrown b (begins_by n b (ask b (event.Begin n)).book o).book
      by None =
          grown_then b (ask b (event.Begin n)).book (ends n (ask b (event.Begin n)).book).book (grown_ask b (event.Begin n))
          (grown_ask (ask b (event.Begin n)).book (event.Finish n))
      by (Some r) = grown_refused n b r

  grown_that : (b : Ledger) (t u : Tried) (x : Turn) → IsGrown b t.book → IsGrown b u.book → IsGrown b (first_that t u x).book
  grown_that b t u Made g h = g
  grown_that b t u Blocked g h = g
  grown_that b t u Idle g h = h

  grown_first : (k n : ℕ) (b : Ledger) → IsGrown b (first_from k n b).book
  unfolding first_from
  grown_first zero n b = grown_not b
  grown_first (suc k) n b = grown_that b (tried n b) (first_from k (n + 1) b) (tried n b).turn (grown_tried n b) (grown_first k (n + 1) b)

  grown_least : (b : Ledger) → IsGrown b (least_turn b).book
  unfolding least_turn
  grown_least b = grown_first (actors_in b) 0 b

  grown_on : (b : Ledger) (r : Rested) (x : Turn) → IsGrown b r.book → IsGrown b (goes_on b r x).book
  grown_on b r Made g = g
  grown_on b r Blocked g = grown_not b
  grown_on b r Idle g = grown_not b

  pub grown_rests : (k : ℕ) (b : Ledger) → IsGrown b (rests k b).book
  unfolding rests
  grown_rests zero b = grown_not b
  grown_rests (suc k) b =
      grown_on b (rests k (least_turn b).book) (least_turn b).turn
      (grown_then b (least_turn b).book (rests k (least_turn b).book).book (grown_least b) (grown_rests k (least_turn b).book))

  -- ---- commands

  grown_by : (b : Ledger) (values : List Value) (o : Option Called) (s : Option ℕ) → IsGrown b (offered_by b values o s).book
  grown_by b values None s = grown_not b
  grown_by b values (Some x) None = grown_not b
  grown_by b values (Some x) (Some s) = grown_ask b _

  grown_offer : (b : Ledger) (o : PlainOffer) → IsGrown b (offered b o).book
  grown_offer b o = grown_by b o.values (actor_named b o.process) (signal_named b o.signal)

  grown_others : (b : Ledger) (first others : Took) (o : Option Refusal) → IsGrown b first.book → IsGrown b others.book → IsGrown b (answers.goes_on first others o).book
  grown_others b first others None g h = h
  grown_others b first others (Some r) g h = g

  grown_floods : (k : ℕ) (o : PlainOffer) (b : Ledger) → IsGrown b (floods k o b).book
  unfolding floods
  grown_floods zero o b = grown_not b
  grown_floods (suc k) o b =
      let one : Ledger = (offered b o).book in
      let two : Ledger = (rests MOST_TURNS one).book in
      let first : IsGrown b one = grown_offer b o in
      grown_others b (offered b o) (floods k o two) (offered b o).refusal first
      (grown_then b one (floods k o two).book first (grown_then one two (floods k o two).book (grown_rests MOST_TURNS one) (grown_floods k o two)))

  grown_flood : (n : ℕ) (o : PlainOffer) (b : Ledger) (r : Option Refusal) → IsGrown b (flooded n o b r).book
  grown_flood n o b None = grown_floods n o b
  grown_flood n o b (Some r) = grown_not b

  grown_called : (b : Ledger) (c : Call) (x : Called) → IsGrown b (called b c x).book
  grown_called b Begin x = grown_ask b (event.Begin x.number)
  grown_called b Finish x = grown_ask b (event.Finish x.number)
  grown_called b Skip x = grown_ask b (event.Skip x.number)
  grown_called b State x = grown_not b

  grown_calls : (b : Ledger) (c : Call) (o : Option Called) → IsGrown b (calls b c o).book
  grown_calls b c None = grown_not b
  grown_calls b c (Some x) = grown_called b c x

  grown_obeyed : (b : Ledger) (c : PlainCommand) → IsGrown b (obeyed b c).book
  unfolding obeyed
  grown_obeyed b (offer o) = grown_offer b o
  grown_obeyed b (flood n o) = grown_flood n o b (looked_up (actor_named b o.process) (signal_named b o.signal))
  grown_obeyed b (call c name) = grown_calls b c (actor_named b name)
  grown_obeyed b (tick n) = grown_ask b (event.Advance n)
  grown_obeyed b env = grown_ask b event.TakeEnv
  grown_obeyed b rest = grown_rests MOST_TURNS b
  grown_obeyed b (value process name) = grown_not b
  grown_obeyed b (expect text) = grown_not b

  -- along the commands of a script
  pub grown_goes : (b : Ledger) (commands : List PlainSaid) (lines : List (List ℕ)) (now : Ledger) (last : Option (List ℕ)) → Goes b commands lines now last
      → IsGrown b now
  grown_goes b _ _ _ _ begins = grown_not b
  grown_goes b _ _ _ _ (prints {now = now} said other goes) =
      grown_then b now (obeyed now said.command).book (grown_goes b _ _ now _ goes) (grown_obeyed now said.command)
  grown_goes b _ _ _ _ (holds {now = now} said is goes) = grown_goes b _ _ now _ goes
