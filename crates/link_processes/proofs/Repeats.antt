-- Steps one after another.
use Rattle.std.proofs.Common.{◌≡◌, ℕ, ◌-◌, ◌<◌, ◌≤◌, suc, Bool, true, false, cond, length, refl, sym, ap, ◌∙◌, arith}
use Rattle.actor_machine.specs.Ledger.{state_of}
use Rattle.actor_book.specs.Turns.{MOST_TURNS}
use Rattle.link_processes.specs.declared.processes.Processes.{Processes}
use Rattle.link_processes.specs.Machine.{Step, repeated, one_taken, emptied, moved, rested}

module _ (f : Processes → Step) where
  step_by : (k m : ℕ) (t : Processes) (b : Bool) → k ≡ suc m → (f t).goes ≡ b → repeated f k t ≡ cond b (repeated f m (f t).processes) (f t).processes
  unfolding repeated
  step_by k m t b h e =
      ap (λ (j : ℕ). repeated f j t) h ∙ ap (λ (x : Bool). cond x (repeated f m (f t).processes) (f t).processes) e

  some_left : (k : ℕ) → 0 < k → k ≡ suc (k - 1)
  some_left k h = omega (arith, h)

  -- one step was made
  pub goes_on : (k : ℕ) (t u r : Processes) → repeated f k t ≡ r → 0 < k → true ≡ (f t).goes → u ≡ (f t).processes → repeated f (k - 1) u ≡ r
  goes_on k t u r so h e same =
      ap (repeated f (k - 1)) same ∙ sym (step_by k (k - 1) t true (some_left k h) (sym e)) ∙ so

  -- the step was the last one
  pub ends : (k : ℕ) (t u r : Processes) → repeated f k t ≡ r → 0 < k → false ≡ (f t).goes → u ≡ (f t).processes → u ≡ r
  ends k t u r so h e same = same ∙ sym (step_by k (k - 1) t false (some_left k h) (sym e)) ∙ so

  none : (t : Processes) → repeated f 0 t ≡ t
  unfolding repeated
  none t = refl

  -- no more steps are allowed
  pub is_spent : (k : ℕ) (t r : Processes) → repeated f k t ≡ r → k ≤ 0 → t ≡ r
  is_spent k t r so h =
      let over : k ≡ 0 = omega (arith, h) in sym (none t) ∙ sym (ap (λ (j : ℕ). repeated f j t) over) ∙ so

pub empties : (t : Processes) (n : ℕ) → n ≡ length (state_of t.book).ring.items → repeated one_taken n t ≡ emptied t
unfolding emptied
empties t n h = ap (λ (k : ℕ). repeated one_taken k t) h

pub rests : (t : Processes) → repeated moved MOST_TURNS t ≡ rested t
unfolding rested
rests t = refl
