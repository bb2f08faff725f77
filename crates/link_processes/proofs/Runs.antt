-- A rest as a run of turns.
use Rattle.std.proofs.Common.{◌≡◌, ℕ, zero, suc, cond, refl, sym, ap, ◌∙◌, subst}
use Rattle.actor_machine.specs.Ledger.{Ledger}
use Rattle.actor_book.specs.declared.turn.Turn.{Turn}
use Rattle.actor_book.specs.declared.turn.Turn.TheVariants.{Made, Blocked, Idle}
use Rattle.actor_book.specs.Turns.{MOST_TURNS, Tried, tried, least_turn}
use Rattle.actor_book.specs.Laws.{IsLeast, IsTurn, of_least, of_none, StaysLaw, TurnLaw}
use Rattle.link_processes.specs.declared.processes.Processes.{Processes}
use Rattle.link_processes.specs.Machine.{Step, repeated, with_book, emptied, turned, moved_by, moved, rested}
use Rattle.link_processes.specs.Laws.{IsRun, spent, none_can, blocked, goes, RestLaw}
use Rattle.actor_book.proofs.Leasts.{blocked_not_made}

with_same : (t : Processes) (b : Ledger) → b ≡ t.book → t ≡ with_book t b
with_same t b h = ap (with_book t) (sym h)

-- the run after one step, given the runs that follow it
module _ (stays : StaysLaw) (k : ℕ) (later : Processes → Processes) (runs : (u : Processes) → IsRun k u (later u)) where
  after : Step → Processes
  after s = cond s.goes (later s.processes) s.processes

  by_turn : (t : Processes) (n : ℕ) (x : Turn) → IsLeast t.book n → (tried n t.book).turn ≡ x
      → IsRun (suc k) t (after (moved_by t (tried n t.book).book x))
  unfolding after
  by_turn t n Made l e =
      goes k t (later (emptied (turned t (tried n t.book).book))) n l e (runs (emptied (turned t (tried n t.book).book)))
  by_turn t n Blocked l e =
      let same : (tried n t.book).book ≡ t.book = stays n t.book (λ h. blocked_not_made (sym e ∙ h)) in
      let P : Processes → Type 0 = λ u. IsRun (suc k) t u in
      subst P (with_same t (tried n t.book).book same) (blocked (suc k) t n l e)
  by_turn t n Idle l e = absurd (l.can e)

  by_tried : (t : Processes) (x : Tried) → IsTurn t.book x → IsRun (suc k) t (after (moved_by t x.book x.turn))
  unfolding after
  by_tried t _ (of_least n l) = by_turn t n (tried n t.book).turn l refl
  by_tried t _ (of_none none) = none_can (suc k) t none

  one_run : TurnLaw → (t : Processes) → IsRun (suc k) t (after (moved t))
  unfolding moved
  one_run turns t = by_tried t (least_turn t.book) (turns t.book)

run_of : TurnLaw → StaysLaw → (k : ℕ) (t : Processes) → IsRun k t (repeated moved k t)
unfolding repeated after
run_of turns stays zero t = spent t
run_of turns stays (suc k) t = one_run stays k (repeated moved k) (run_of turns stays k) turns t

pub rest_law : TurnLaw → StaysLaw → RestLaw
unfolding rested
rest_law turns stays t = run_of turns stays MOST_TURNS t
