-- Lists of events, in order.
use Rattle.std.proofs.Common.{◌≡◌, ℕ, List, [], ◌∷◌, ◌++◌, map, ap, ◌∙◌, ◌+◌, ◌≤◌, ◌<◌, length, append_assoc, length-append, arith}
use Rattle.std.proofs.lemmas.List.{map-append}
use Rattle.turn_code.specs.declared.draft.Draft.{Draft}
use Rattle.actor_book.specs.Running.{IsUnderWay}
use Rattle.actor_machine.specs.Laws.{SetLaw}
use Rattle.actor_machine.specs.Ledger.{Ledger, runs, ask, ask_by, answers_by, after_by}
use Rattle.actor_machine.specs.Step.{Answer, Says}
use Rattle.actor_machine.specs.declared.event.Event.{Event}
use Rattle.actor_machine.specs.declared.reply.Reply.{Reply}

module _ (d : Draft) (b : Ledger) (same : b.set ≡ d) (e : Event) (es : List Event) where
  -- the book after one event
  pub after_one : (next : Ledger) → next ≡ (ask b e).book → after_by (runs d) next es ≡ after_by (runs d) b (e ∷ es)
  after_one next h =
      ap (λ (x : Ledger). after_by (runs d) x es) h ∙ ap (λ (x : Draft). after_by (runs d) (ask_by (runs x) b e).book es) same

  -- the answers after one event
  pub answers_one : (rs : List Reply) (r : Reply) (next : Ledger) → next ≡ (ask b e).book → Says r ≡ (ask b e).answer
      → map Says (rs ++ r ∷ []) ++ answers_by (runs d) next es ≡ map Says rs ++ answers_by (runs d) b (e ∷ es)
  answers_one rs r next h k =
      ap (λ (xs : List Answer). xs ++ answers_by (runs d) next es) (map-append Says rs (r ∷ []))
      ∙ append_assoc (map Says rs) (Says r ∷ []) (answers_by (runs d) next es)
      ∙ ap (λ (x : Answer). map Says rs ++ x ∷ answers_by (runs d) next es) k
      ∙ ap (λ (x : Ledger). map Says rs ++ (ask b e).answer ∷ answers_by (runs d) x es) h
      ∙ ap (λ (x : Draft). map Says rs ++ (ask_by (runs x) b e).answer ∷ answers_by (runs d) (ask_by (runs x) b e).book es) same

  pub same_set : SetLaw → (next : Ledger) → next ≡ (ask b e).book → next.set ≡ d
  same_set sets next h = ap (λ (x : Ledger). x.set) h ∙ sets.asks b e ∙ same

pub goes_on : SetLaw → (first b next : Ledger) (before rs new : List Reply) (c d : ℕ) (events es : List Event) (e : Event) (r : Reply)
    → IsUnderWay first b before rs c events (e ∷ es) → next ≡ (ask b e).book → Says r ≡ (ask b e).answer → new ≡ rs ++ r ∷ [] → c ≤ d
    → IsUnderWay first next before new d events es
goes_on sets first b next before rs new c d events es e r way h k l le =
    let longer : length (rs ++ r ∷ []) ≡ length rs + 1 = length-append rs (r ∷ []) in
    let long : length new ≡ length (rs ++ r ∷ []) = ap length l in
    let room : length rs + length (e ∷ es) ≤ c = way.room in
    record {
      set = same_set first.set b way.set e es sets next h;
      replies = ap (λ (xs : List Reply). map Says xs ++ answers_by (runs first.set) next es) l
          ∙ answers_one first.set b way.set e es rs r next h k ∙ way.replies;
      book = after_one first.set b way.set e es next h ∙ way.book;
      room = omega arith;
    }

pub has_room : (first b : Ledger) (before rs : List Reply) (c : ℕ) (events es : List Event) (e : Event) → IsUnderWay first b before rs c events (e ∷ es)
    → length rs < c
has_room first b before rs c events es e way = let room : length rs + length (e ∷ es) ≤ c = way.room in omega arith
