-- The state of a book as its journal grows, and the fit of all states on the way.
use Rattle.std.proofs.Common.{◌≡◌, List, [], ◌∷◌, ◌++◌, Option, Some, None, refl, ap, ◌∙◌}
use Rattle.turn_code.specs.Outcome.{Meaning}
use Rattle.turn_code.specs.declared.draft.Draft.{Draft}
use Rattle.actor_machine.specs.Core.{Core}
use Rattle.actor_machine.specs.Fits.{CoreFits}
use Rattle.actor_machine.specs.Step.{Stepped, step}
use Rattle.actor_machine.specs.Ledger.{Ledger, runs, replay, state_by, state_of, refusal_by, asked, ask, ask_by, rebased, after_by}
use Rattle.actor_machine.specs.Kept.{FitsAlong, IsKept}
use Rattle.actor_machine.specs.Laws.{SetLaw}
use Rattle.actor_machine.specs.declared.event.Event.{Event}
use Rattle.actor_machine.specs.declared.reply.Refusal.{Refusal}

pub replay_more : (d : Draft) (m : Meaning) (w : Core) (es : List Event) (e : Event)
    → replay d m w (es ++ e ∷ []) ≡ (step d m (replay d m w es) e).to
replay_more d m w [] e = refl
replay_more d m w (x ∷ es) e = replay_more d m (step d m w x).to es e

-- a book with one more event
abbrev pub with_event : Ledger → Event → Ledger
with_event b e = record b { journal = b.journal ++ e ∷ [] }

pub state_more : (b : Ledger) (e : Event) → state_of (with_event b e) ≡ (step b.set (runs b.set) (state_of b) e).to
state_more b e = replay_more b.set (runs b.set) b.base b.journal e

pub asked_book : (b : Ledger) (e : Event) (s : Stepped) (o : Option Refusal) → o ≡ None → (asked b e s o).book ≡ with_event b e
asked_book b e s None h = refl
asked_book b e s (Some r) h = cc

pub state_law : (b : Ledger) (e : Event) → refusal_by (runs b.set) b e ≡ None
    → state_of (ask b e).book ≡ (step b.set (runs b.set) (state_of b) e).to
unfolding ask_by
state_law b e h =
    ap (λ (x : Ledger). state_of x) (asked_book b e (step b.set (runs b.set) (state_of b) e) (refusal_by (runs b.set) b e) h)
    ∙ state_more b e

pub fits_last : (d : Draft) (w : Core) (es : List Event) → FitsAlong d w es → CoreFits d (replay d (runs d) w es)
fits_last d w [] h = h
fits_last d w (e ∷ es) h = fits_last d (step d (runs d) w e).to es h.1

pub fits_more : (d : Draft) (w : Core) (es : List Event) (e : Event) → FitsAlong d w es
    → CoreFits d (step d (runs d) (replay d (runs d) w es) e).to → FitsAlong d w (es ++ e ∷ [])
fits_more d w [] e h k = (h, k)
fits_more d w (x ∷ es) e h k = (h.0, fits_more d (step d (runs d) w x).to es e h.1 k)

pub fits_law : (b : Ledger) → IsKept b → CoreFits b.set (state_of b)
fits_law b h = fits_last b.set b.base b.journal h.stands.along

-- ---- the set and the limit of the journal

abbrev SameSet : Ledger → Ledger → Type 0
SameSet a b = (a.set ≡ b.set) × (a.limit ≡ b.limit)

asked_same : (b : Ledger) (e : Event) (s : Stepped) (o : Option Refusal) → SameSet (asked b e s o).book b
asked_same b e s None = (refl, refl)
asked_same b e s (Some r) = (refl, refl)

ask_same : (m : Meaning) (b : Ledger) (e : Event) → SameSet (ask_by m b e).book b
unfolding ask_by
ask_same m b e = asked_same b e (step b.set m (state_by m b) e) (refusal_by m b e)

pub ask_set : (m : Meaning) (b : Ledger) (e : Event) → (ask_by m b e).book.set ≡ b.set
ask_set m b e = (ask_same m b e).0

after_set : (m : Meaning) (b : Ledger) (es : List Event) → (after_by m b es).set ≡ b.set
after_set m b [] = refl
after_set m b (e ∷ es) = after_set m (ask_by m b e).book es ∙ ask_set m b e

after_limit : (m : Meaning) (b : Ledger) (es : List Event) → (after_by m b es).limit ≡ b.limit
after_limit m b [] = refl
after_limit m b (e ∷ es) = after_limit m (ask_by m b e).book es ∙ (ask_same m b e).1

pub set_law : SetLaw
unfolding rebased
set_law = record {
  asks = λ b e. ask_set (runs b.set) b e;
  lists = λ b es. after_set (runs b.set) b es;
  rebases = λ b. refl;
  limits = λ b es. after_limit (runs b.set) b es;
}
