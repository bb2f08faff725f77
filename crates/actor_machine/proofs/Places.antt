-- Events at their places.
use Rattle.std.proofs.Common.{◌≡◌, ℕ, zero, suc, ◌+◌, ◌-◌, ◌^◌, ◌<◌, ◌≤◌, Bool, true, false, if◌then◌else◌, List, [], ◌∷◌, ◌++◌, length, Option, Some, None, refl, ap, ◌∙◌, arith, le-ltb}
use Rattle.std.specs.Prelude.{slice_get, nat_lt}
use Rattle.std.proofs.lemmas.Option.{none-some}
use Rattle.std.proofs.lemmas.List.{length-append}
use Rattle.turn_code.specs.Outcome.{Meaning}
use Rattle.actor_machine.specs.Core.{outs}
use Rattle.actor_machine.specs.Step.{Stepped, step}
use Rattle.actor_machine.specs.Ledger.{Ledger, runs, state_by, state_of, next, event_at, refusal_by, asked, ask, ask_by, rebased, after_by}
use Rattle.actor_machine.specs.Kept.{IsKept}
use Rattle.actor_machine.specs.Laws.{PlaceLaw}
use Rattle.actor_machine.specs.declared.event.Event.{Event}
use Rattle.actor_machine.specs.declared.reply.Refusal.{Refusal}
use Rattle.actor_machine.proofs.Replays.{with_event, asked_book}
use Rattle.plain_laws.proofs.Places.{last_at}

-- ---- lists with one more element

still_at : (xs : List Event) (x e : Event) (k : ℕ) → slice_get xs k ≡ Some e → slice_get (xs ++ x ∷ []) k ≡ Some e
still_at [] x e k h = absurd (none-some e h)
still_at (y ∷ xs) x e zero h = h
still_at (y ∷ xs) x e (suc k) h = still_at xs x e k h

-- ---- one event

-- a place that isn't before the first place
from_first : (first place : ℕ) (o : Option Event) → nat_lt place first ≡ false → (if nat_lt place first then None else o) ≡ o
from_first first place o h = ap (λ (b : Bool). if b then None else o) h

not_before : (b : Bool) (o : Option Event) (e : Event) → (if b then None else o) ≡ Some e → (b ≡ false) × (o ≡ Some e)
not_before true o e h = absurd (none-some e h)
not_before false o e h = (refl, h)

next_place : (b : Ledger) (e : Event) → event_at (with_event b e) (next b) ≡ Some e
next_place b e =
    let behind : next b - b.first ≡ length b.journal = omega arith in
    from_first b.first (next b) _ (le-ltb (next b) b.first (omega arith))
    ∙ ap (λ (k : ℕ). slice_get (b.journal ++ e ∷ []) k) behind
    ∙ last_at b.journal e

stays_with : (b : Ledger) (x e : Event) (place : ℕ) → event_at b place ≡ Some e → event_at (with_event b x) place ≡ Some e
stays_with b x e place h =
    let at = not_before (nat_lt place b.first) (slice_get b.journal (place - b.first)) e h in
    from_first b.first place _ at.0 ∙ still_at b.journal x e (place - b.first) at.1

stays_asked : (b : Ledger) (x e : Event) (s : Stepped) (o : Option Refusal) (place : ℕ) → event_at b place ≡ Some e → event_at (asked b x s o).book place ≡ Some e
stays_asked b x e s None place h = stays_with b x e place h
stays_asked b x e s (Some r) place h = h

stays_by : (m : Meaning) (b : Ledger) (es : List Event) (place : ℕ) (e : Event) → event_at b place ≡ Some e → event_at (after_by m b es) place ≡ Some e
unfolding ask_by
stays_by m b [] place e h = h
stays_by m b (x ∷ es) place e h =
    stays_by m (ask_by m b x).book es place e (stays_asked b x e (step b.set m (state_by m b) x) (refusal_by m b x) place h)

accepted_book : (b : Ledger) (e : Event) → refusal_by (runs b.set) b e ≡ None → (ask b e).book ≡ with_event b e
unfolding ask_by
accepted_book b e h = asked_book b e (step b.set (runs b.set) (state_of b) e) (refusal_by (runs b.set) b e) h

next_more : (b : Ledger) (e : Event) → next (with_event b e) ≡ next b + 1
next_more b e =
    let longer : length (b.journal ++ e ∷ []) ≡ length b.journal + 1 = length-append b.journal (e ∷ []) in
    omega arith

no_place : (b : Bool) (k : ℕ) → (if b then None else slice_get {X = Event} [] k) ≡ None
no_place true k = refl
no_place false k = refl

emptied : (b : Ledger) (place : ℕ) → event_at (rebased b) place ≡ None
unfolding rebased
emptied b place = no_place (nat_lt place (next b)) (place - next b)

goes_on : (b : Ledger) → next (rebased b) ≡ next b
unfolding rebased
goes_on b = omega arith

stays_below : (b : Ledger) → IsKept b → next b < 2 ^ 57
stays_below b h =
    let places : b.first + length b.journal + outs (state_of b).actors ≤ 2 ^ 56 + b.limit = h.bounded.places in
    let limit : b.limit ≤ 65536 = h.bounded.limit in
    omega arith

pub place_law : PlaceLaw
place_law = record {
  accepted = λ b e h. ap (λ (x : Ledger). event_at x (next b)) (accepted_book b e h) ∙ next_place b e;
  follows = λ b e h. ap (λ (x : Ledger). next x) (accepted_book b e h) ∙ next_more b e;
  stays = λ b es place e h. stays_by (runs b.set) b es place e h;
  emptied = emptied;
  onward = goes_on;
  below = stays_below;
}
