-- How an event changes a book's journal.
use Rattle.std.proofs.Common.{◌≡◌, ℕ, ◌+◌, ◌-◌, Bool, if◌then◌else◌, [], ◌∷◌, ◌++◌, length, slice_get, Option, Some, None, refl, ap, ◌∙◌, arith}
use Rattle.std.proofs.lemmas.Bool.{le-ltb}
use Rattle.actor_machine.specs.Step.{Says, Stepped, step}
use Rattle.actor_machine.specs.Ledger.{Ledger, runs, state_of, refusal_by, asked, ask, ask_by, next, event_at}
use Rattle.actor_machine.specs.declared.event.Event.{Event}
use Rattle.actor_machine.specs.declared.reply.Refusal.{Refusal}
use Rattle.actor_machine.specs.declared.reply.Reply.TheVariants as reply
use Rattle.plain_laws.proofs.Places.{last_at}

offered_by : (b : Ledger) (e : Event) (s : Stepped) (o : Option Refusal) → Says reply.Offered ≡ (asked b e s o).answer
    → (asked b e s o).book.journal ≡ b.journal ++ e ∷ []
offered_by b e s None is = refl
offered_by b e s (Some r) is = cc

-- an event whose answer is `Offered` is the last event of the journal
pub offered : (b : Ledger) (e : Event) → Says reply.Offered ≡ (ask b e).answer → (ask b e).book.journal ≡ b.journal ++ e ∷ []
unfolding ask_by
offered b e is = offered_by b e (step b.set (runs b.set) (state_of b) e) (refusal_by (runs b.set) b e) is

stands_by : (b : Ledger) (e : Event) (s : Stepped) (o : Option Refusal) → next (asked b e s o).book ≡ next b + 1 → event_at (asked b e s o).book (next b) ≡ Some e
stands_by b e s None more =
    let behind : next b - b.first ≡ length b.journal = omega arith in
    ap (λ (t : Bool). if t then None else slice_get (b.journal ++ e ∷ []) (next b - b.first)) (le-ltb (next b) b.first (omega arith))
    ∙ ap (λ (k : ℕ). slice_get (b.journal ++ e ∷ []) k) behind
    ∙ last_at b.journal e
stands_by b e s (Some r) more = absurd (omega arith)

-- an event that raises the next place is at the place that was the next
pub stands : (b : Ledger) (e : Event) → next (ask b e).book ≡ next b + 1 → event_at (ask b e).book (next b) ≡ Some e
unfolding ask_by
stands b e more = stands_by b e (step b.set (runs b.set) (state_of b) e) (refusal_by (runs b.set) b e) more
