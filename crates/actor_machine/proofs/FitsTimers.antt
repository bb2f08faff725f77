-- Deadlines that are set and removed, if each timer belongs to its actor's process.
use Rattle.std.proofs.Common.{◌≡◌, ℕ, zero, suc, ◌+◌, ◌<◌, ◌⊎◌, inl, inr, Bool, true, false, not, cond, length, Option, Some, None, refl, sym, ap, ◌∙◌, subst}
use Rattle.std.specs.Prelude.{slice_get}
use Rattle.std.specs.Ordering.{eq_by_cmp}
use Rattle.std.specs.FinMap as finite
use Rattle.std.specs.FinMap.{get-insert, get-remove, get-retain_keys, get-empty}
use Rattle.std.proofs.lemmas.Option.{none-some}
use Rattle.turn_code.specs.declared.draft.Draft.{Draft}
use Rattle.turn_code.specs.declared.draft.DraftProcess.{DraftProcess}
use Rattle.turn_code.specs.declared.machine.End.{End}
use Rattle.turn_code.specs.declared.machine.End.TheVariants.{State, Stop}
use Rattle.tick_wheel.specs.TimerId.{TimerId, timer_cmp}
use Rattle.tick_wheel.specs.Timers.{Timers, Deadlines, is_due, not_due}
use Rattle.actor_machine.specs.Effects.{timer_of, until, without, without_first_timers, without_timers, timers_after}
use Rattle.actor_machine.specs.declared.name.ActorName.{ActorName}
use Rattle.actor_machine.specs.Fits.{IsCalled, TimerFits, TimersFit}
use Rattle.tick_wheel.proofs.Orders.{timers_total as total, exact_timers as exact}
use Rattle.plain_laws.proofs.Options.{is_Equal as tied}

-- each deadline of `some` is one of `all`
abbrev pub ArePart : Deadlines → Deadlines → Type 0
ArePart some all = (t : TimerId) (u : ℕ) → finite.get some t ≡ Some u → finite.get all t ≡ Some u

pub part_fits : (d : Draft) (some all : Deadlines) → ArePart some all → TimersFit d all → TimersFit d some
part_fits d some all part fits = λ t u h. fits t u (part t u h)

pub no_timers : (d : Draft) → TimersFit d finite.empty
no_timers d t u h = absurd (none-some u (sym (get-empty timer_cmp t) ∙ h))

-- a deadline after an insertion is the new one or was there before
pub get_inserted : (m : Deadlines) (k : TimerId) (v : ℕ) (t : TimerId) (u : ℕ) → finite.get (finite.insert m k v) t ≡ Some u → (t ≡ k) ⊎ (finite.get m t ≡ Some u)
get_inserted m k v t u h = by (eq_by_cmp timer_cmp t k) refl (sym (get-insert total m k v t) ∙ h)
  where
    by : (b : Bool) → eq_by_cmp timer_cmp t k ≡ b → cond b (Some v) (finite.get m t) ≡ Some u → (t ≡ k) ⊎ (finite.get m t ≡ Some u)
    by true e h = inl (exact t k (tied _ e))
    by false e h = inr h

inserted : (d : Draft) (m : Deadlines) (k : TimerId) (v : ℕ) → TimersFit d m → TimerFits d k → TimersFit d (finite.insert m k v)
inserted d m k v fits one = λ t u h. elim (get_inserted m k v t u h) [
  | inl same ↦ subst (TimerFits d) (sym same) one
  | inr was ↦ fits t u was
]

lost_by : (b : Bool) (o : Option ℕ) (u : ℕ) → cond b None o ≡ Some u → o ≡ Some u
lost_by true o u h = absurd (none-some u h)
lost_by false o u h = h

pub removed : (m : Deadlines) (k : TimerId) → ArePart (finite.remove m k) m
removed m k = λ t u h. lost_by (eq_by_cmp timer_cmp t k) (finite.get m t) u (sym (get-remove total m k t) ∙ h)

-- a deadline that stays, and that isn't due
kept_by : (b : Bool) (o : Option ℕ) (u : ℕ) → cond (not b) o None ≡ Some u → (o ≡ Some u) × (b ≡ false)
kept_by true o u h = absurd (none-some u h)
kept_by false o u h = (h, refl)

pub get_retained : (m : Deadlines) (clock : ℕ) (t : TimerId) (u : ℕ) → finite.get (not_due m clock) t ≡ Some u → (finite.get m t ≡ Some u) × (is_due m clock t ≡ false)
unfolding not_due
get_retained m clock t u h =
    let stays : TimerId → Bool = λ x. not (is_due m clock x) in
    kept_by (is_due m clock t) (finite.get m t) u (sym (get-retain_keys m stays t (λ x e. ap stays (sym (exact t x e)))) ∙ h)

pub retained : (m : Deadlines) (clock : ℕ) → ArePart (not_due m clock) m
retained m clock = λ t u h. (get_retained m clock t u h).0

-- ---- how a turn changes them

pub until_fits : (d : Draft) (ts : Timers) (n timer k : ℕ) (me : ActorName) (p : DraftProcess) → IsCalled d n me → slice_get d.processes me.process.0 ≡ Some p → timer < length p.timers → TimersFit d ts.deadlines
    → TimersFit d (until ts n timer k).deadlines
until_fits d ts n timer k me p called there within fits =
    inserted d ts.deadlines (timer_of n timer) (ts.clock + k) fits (record { name = me; actor = called; process = p; there = there; number = within })

pub without_part : (ts : Timers) (n timer : ℕ) → ArePart (without ts n timer).deadlines ts.deadlines
without_part ts n timer = removed ts.deadlines (timer_of n timer)

without_first_part : (ts : Timers) (n k : ℕ) → ArePart (without_first_timers ts n k).deadlines ts.deadlines
without_first_part ts n zero = λ t u h. h
without_first_part ts n (suc k) = λ t u h. without_first_part ts n k t u (without_part (without_first_timers ts n k) n k t u h)

without_all_part : (ts : Timers) (n : ℕ) → ArePart (without_timers ts n).deadlines ts.deadlines
unfolding without_timers
without_all_part ts n = without_first_part ts n 8

pub after_part : (e : End) (ts : Timers) (n : ℕ) → ArePart (timers_after e ts n).deadlines ts.deadlines
after_part (State q) ts n = λ t u h. h
after_part Stop ts n = without_all_part ts n
