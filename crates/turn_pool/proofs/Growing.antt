-- The events that whole turns add to a journal.
use Rattle.std.proofs.Common.{◌≡◌, ℕ, ◌+◌, ◌<◌, ◌≤◌, zero, suc, [], ◌∷◌, length-append, Option, Some, None, refl, sym, arith}
use Rattle.std.proofs.lemmas.Option.{none-some}
use Rattle.actor_machine.specs.Step.{Stepped, step}
use Rattle.actor_machine.specs.Ledger.{Ledger, runs, state_of, refusal_by, asked, ask, ask_by, next}
use Rattle.actor_machine.specs.declared.event.Event.{Event}
use Rattle.actor_machine.specs.declared.event.Event.TheVariants.{Begin, Skip, Finish}
use Rattle.actor_machine.specs.declared.reply.Refusal.{Refusal}
use Rattle.actor_machine.specs.declared.reply.Refusal.TheVariants.{JournalFull, SkipFirst}
use Rattle.actor_book.specs.declared.turn.Turn.{Turn}
use Rattle.actor_book.specs.declared.turn.Turn.TheVariants.{Made, Blocked, Idle}
use Rattle.actor_book.specs.Turns.{Tried, turn_refused, refusal_in, skips_by, by_refusal, begins_by, tried, actors_in, first_that, first_from, least_turn, Rested, goes_on, rests}
use Rattle.turn_pool.specs.Steps.{HasCounted}

-- one or two events if there was a turn, and none otherwise
Adds : Turn → ℕ → ℕ → Type 0
Adds Made before after = (before < after) × (after ≤ before + 2)
Adds Blocked before after = after ≡ before
Adds Idle before after = after ≡ before

-- ---- one event

grows_by : (b : Ledger) (e : Event) (s : Stepped) (o : Option Refusal) → (next b ≤ next (asked b e s o).book) × (next (asked b e s o).book ≤ next b + 1)
grows_by b e s None = (omega (arith, length-append b.journal (e ∷ [])), omega (arith, length-append b.journal (e ∷ [])))
grows_by b e s (Some r) = (omega arith, omega arith)

grows : (b : Ledger) (e : Event) → (next b ≤ next (ask b e).book) × (next (ask b e).book ≤ next b + 1)
unfolding ask_by
grows b e = grows_by b e (step b.set (runs b.set) (state_of b) e) (refusal_by (runs b.set) b e)

taken_by : (b : Ledger) (e : Event) (s : Stepped) (o : Option Refusal) → refusal_in (asked b e s o).answer ≡ None → next (asked b e s o).book ≡ next b + 1
taken_by b e s None is = omega (arith, length-append b.journal (e ∷ []))
taken_by b e s (Some r) is = absurd (none-some r (sym is))

-- an event that isn't refused raises the next place by one
taken : (b : Ledger) (e : Event) → refusal_in (ask b e).answer ≡ None → next (ask b e).book ≡ next b + 1
unfolding ask_by
taken b e is = taken_by b e (step b.set (runs b.set) (state_of b) e) (refusal_by (runs b.set) b e) is

-- ---- one turn

refused_adds : (b : Ledger) (r : Refusal) → Adds (turn_refused r) (next b) (next b)
unfolding Adds
refused_adds b JournalFull = refl
refused_adds b r = refl

skips_adds : (b c : Ledger) (o : Option Refusal) → (o ≡ None → next c ≡ next b + 1) → Adds (skips_by b c o).turn (next b) (next (skips_by b c o).book)
unfolding Adds
skips_adds b c None more = (omega (arith, more refl), omega (arith, more refl))
skips_adds b c (Some r) more = refused_adds b r

refusal_adds : (n : ℕ) (b : Ledger) (r : Refusal) → Adds (by_refusal n b r).turn (next b) (next (by_refusal n b r).book)
refusal_adds n b SkipFirst = skips_adds b (ask b (Skip n)).book (refusal_in (ask b (Skip n)).answer) (taken b (Skip n))
refusal_adds n b r = refused_adds b r

begins_adds : (n : ℕ) (b c : Ledger) (o : Option Refusal) → (o ≡ None → next c ≡ next b + 1)
    → Adds (begins_by n b c o).turn (next b) (next (begins_by n b c o).book)
unfolding Adds
begins_adds n b c None more =
    let ends = grows c (Finish n) in
    (omega (arith, more refl, ends.0), omega (arith, more refl, ends.1))
begins_adds n b c (Some r) more = refusal_adds n b r

tried_adds : (n : ℕ) (b : Ledger) → Adds (tried n b).turn (next b) (next (tried n b).book)
unfolding tried
tried_adds n b = begins_adds n b (ask b (Begin n)).book (refusal_in (ask b (Begin n)).answer) (taken b (Begin n))

found_adds : (b : Ledger) (t u : Tried) (v : Turn) → t.turn ≡ v → Adds t.turn (next b) (next t.book) → Adds u.turn (next b) (next u.book)
    → Adds (first_that t u v).turn (next b) (next (first_that t u v).book)
found_adds b t u Made is first second = first
found_adds b t u Blocked is first second = first
found_adds b t u Idle is first second = second

first_adds : (k n : ℕ) (b : Ledger) → Adds (first_from k n b).turn (next b) (next (first_from k n b).book)
unfolding first_from Adds
first_adds zero n b = refl
first_adds (suc k) n b = found_adds b (tried n b) (first_from k (n + 1) b) (tried n b).turn refl (tried_adds n b) (first_adds k (n + 1) b)

least_adds : (b : Ledger) → Adds (least_turn b).turn (next b) (next (least_turn b).book)
unfolding least_turn
least_adds b = first_adds (actors_in b) 0 b

-- ---- one after another

goes_on_counts : (b c : Ledger) (r : Rested) (t : Turn) → Adds t (next b) (next c) → HasCounted r.turns (next c) (next r.book)
    → HasCounted (goes_on b r t).turns (next b) (next (goes_on b r t).book)
unfolding Adds
goes_on_counts b c r Made one more = (omega (arith, one.0, more.0), omega (arith, one.1, more.1))
goes_on_counts b c r Blocked one more = (omega arith, omega arith)
goes_on_counts b c r Idle one more = (omega arith, omega arith)

-- each turn of a sequence of turns is one or two events of the journal
pub rests_count : (k : ℕ) (b : Ledger) → HasCounted (rests k b).turns (next b) (next (rests k b).book)
unfolding rests
rests_count zero b = (omega arith, omega arith)
rests_count (suc k) b = goes_on_counts b (least_turn b).book (rests k (least_turn b).book) (least_turn b).turn (least_adds b) (rests_count k (least_turn b).book)

goes_on_few : (k : ℕ) (b : Ledger) (r : Rested) (t : Turn) → r.turns ≤ k → (goes_on b r t).turns ≤ suc k
goes_on_few k b r Made few = omega (arith, few)
goes_on_few k b r Blocked few = omega arith
goes_on_few k b r Idle few = omega arith

pub rests_few : (k : ℕ) (b : Ledger) → (rests k b).turns ≤ k
unfolding rests
rests_few zero b = omega arith
rests_few (suc k) b = goes_on_few k b (rests k (least_turn b).book) (least_turn b).turn (rests_few k (least_turn b).book)
