-- The signals and timers that the states of a valid set save are within the bounds of a set.
use Rattle.std.proofs.Common.{◌≡◌, ℕ, ◌≤◌, zero, suc, List, [], ◌∷◌, length, Option, None, Some, refl, subst, arith}
use Rattle.std.specs.Prelude.{All, slice_get}
use Rattle.std.specs.List.{AllByRecursion}
use Rattle.turn_code.specs.Valid.{IsValid, IsValidTransition}
use Rattle.turn_code.specs.Rules.{IsThere, HasSaves}
use Rattle.turn_code.specs.Transitions.{start_of}
use Rattle.turn_code.specs.declared.input.Place.TheVariants.{Start}
use Rattle.turn_code.specs.declared.draft.Draft.{Draft}
use Rattle.turn_code.specs.declared.draft.DraftSignal.{DraftSignal}
use Rattle.turn_code.specs.declared.draft.DraftProcess.{DraftProcess}
use Rattle.turn_code.specs.declared.draft.DraftState.{DraftState}
use Rattle.turn_code.specs.declared.draft.Trigger.{Trigger}
use Rattle.turn_code.specs.declared.draft.Trigger.TheVariants.{Signal, Timer}
use Rattle.turn_check.specs.Named.{states_of, saves_of, saves_at}
use Rattle.actor_state.specs.Saving.{IsSmall}
use Rattle.actor_state.specs.Opening.{HasFew}
use Rattle.turn_check.proofs.Whole.{start_at_0 as starts}

-- ---- lists by places and by recursion

tail_all : {A : Type 0} (P : A → Type 0) (x : A) (xs : List A) → All P (x ∷ xs) → All P xs
tail_all P x xs h k d below = h (suc k) d (omega arith)

pub each_of : {A : Type 0} (P Q : A → Type 0) (xs : List A) → ((x : A) → P x → Q x) → All P xs → AllByRecursion Q xs
each_of P Q [] f h = tt {0}
each_of P Q (x ∷ xs) f h = (f x (h 0 x (omega arith)), each_of P Q xs f (tail_all P x xs h))

at_place : {A : Type 0} (P : A → Type 0) (xs : List A) (k : ℕ) (x : A) → slice_get xs k ≡ Some x → All P xs → P x
at_place P [] k x e h = absurd (cc)
at_place P (y ∷ ys) zero x e h = let same : y ≡ x = cc in subst P same (h 0 y (omega arith))
at_place P (y ∷ ys) (suc k) x e h = at_place P ys k x e (tail_all P y ys h)

-- ---- saves

is_small : (ss : List DraftSignal) (p : DraftProcess) → length ss ≤ 128 → length p.timers ≤ 8 → (t : Trigger) → IsThere ss p t → IsSmall t
is_small ss p signals timers (Signal n) there = omega arith
is_small ss p signals timers (Timer n) there = omega arith

in_state : (ss : List DraftSignal) (p : DraftProcess) → length ss ≤ 128 → length p.timers ≤ 8 → (q : DraftState) → HasSaves ss p q
    → AllByRecursion IsSmall q.saves
in_state ss p signals timers q saves = each_of (IsThere ss p) IsSmall q.saves (is_small ss p signals timers) saves

of_state : (ss : List DraftSignal) (p : DraftProcess) → length ss ≤ 128 → length p.timers ≤ 8 → All (HasSaves ss p) p.states
    → (k : ℕ) (q : Option DraftState) → slice_get p.states k ≡ q → AllByRecursion IsSmall (saves_of q)
of_state ss p signals timers all k None e = tt {0}
of_state ss p signals timers all k (Some q) e = in_state ss p signals timers q (at_place (HasSaves ss p) p.states k q e all)

of_process : (d : Draft) → IsValid d → (n k : ℕ) (p : Option DraftProcess) → slice_get d.processes n ≡ p
    → AllByRecursion IsSmall (saves_of (slice_get (states_of p) k))
of_process d valid n k None e = tt {0}
of_process d valid n k (Some p) e =
    let t : IsValidTransition d (start_of n p) = valid.each n Start 0 (start_of n p) (starts d n p e) in
    of_state d.signals p valid.limits.signals ((t.limit 0).process refl refl).timers ((t.number 0).saves refl refl) k (slice_get p.states k) refl

pub small_saves : (d : Draft) → IsValid d → (n k : ℕ) → AllByRecursion IsSmall (saves_at d n k)
small_saves d valid n k = of_process d valid n k (slice_get d.processes n) refl

-- ---- variables and instances

few_at : (d : Draft) → IsValid d → (n : ℕ) (p : DraftProcess) → slice_get d.processes n ≡ Some p → HasFew p
few_at d valid n p e =
    let t : IsValidTransition d (start_of n p) = valid.each n Start 0 (start_of n p) (starts d n p e) in
    let limits = (t.limit 0).process refl refl in
    record { variables = limits.variables; instances = limits.instances }

from_places : (ps : List DraftProcess) → ((n : ℕ) (p : DraftProcess) → slice_get ps n ≡ Some p → HasFew p) → AllByRecursion HasFew ps
from_places [] h = tt {0}
from_places (p ∷ ps) h = (h 0 p refl, from_places ps (λ n q e. h (suc n) q e))

pub few_each : (d : Draft) → IsValid d → AllByRecursion HasFew d.processes
few_each d valid = from_places d.processes (few_at d valid)
