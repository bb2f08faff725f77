-- The orders of timers and of due pairs are total, and only equal ones tie.
use Rattle.std.proofs.Common.{◌≡◌, ℕ, ◌<◌, true, false, ap, ◌∙◌, arith}
use Rattle.std.specs.declared.cmp.Ordering.TheVariants.{Less}
use Rattle.std.specs.Ordering.{nat_cmp, ordering_reverse, eq_by_cmp, is_eq}
use Rattle.std.specs.Cmp.{IsTotalOrder}
use Rattle.std.specs.FinMap.{IsAntisymmetric}
use Rattle.std.proofs.lemmas.Cmp.{on_total, then_total, nat_cmp_total, tied_itself}
use Rattle.std.proofs.lemmas.Bool.Decides.{nat_tests}
use Rattle.std.proofs.lemmas.Map.Lookups.{exact_pairs, exact_unsigned}
use Rattle.tick_wheel.specs.TimerId.{TimerId, timer_cmp}
use Rattle.tick_wheel.specs.Table.{timer_at}
use Rattle.tick_wheel.specs.Timers.{due_cmp}
use Rattle.tick_wheel.specs.declared.Due.{Due}
use Rattle.plain_laws.proofs.Options.{is_Equal}

pub timers_total : IsTotalOrder timer_cmp
timers_total = then_total (on_total (λ (t : TimerId). t.actor) nat_cmp_total) (on_total (λ (t : TimerId). t.number) nat_cmp_total)

pub exact_timers : IsAntisymmetric timer_cmp
exact_timers a b h = ap (λ (p : ℕ × ℕ). record { actor = p.0; number = p.1 }) (exact_pairs nat_cmp nat_cmp exact_unsigned exact_unsigned (a.actor, a.number) (b.actor, b.number) h)

pub dues_total : IsTotalOrder due_cmp
dues_total = then_total (on_total (λ (d : Due). d.deadline) nat_cmp_total) (on_total (λ (d : Due). d.timer) timers_total)

pub exact_dues : IsAntisymmetric due_cmp
exact_dues a b h = ap (λ (p : ℕ × TimerId). record { deadline = p.0; timer = p.1 }) (exact_pairs nat_cmp timer_cmp exact_unsigned exact_timers (a.deadline, a.timer) (b.deadline, b.timer) h)

-- a timer at a later place is greater
pub timer_at-rises : (i j : ℕ) → i < j → timer_cmp (timer_at i) (timer_at j) ≡ Less
timer_at-rises i j h = grind (arith, nat_tests)

-- a timer is that of at most one place
pub one_place : (q : TimerId) (i j : ℕ) → eq_by_cmp timer_cmp q (timer_at i) ≡ true → i < j → eq_by_cmp timer_cmp q (timer_at j) ≡ false
one_place q i j e h = rw (exact_timers q (timer_at i) (is_Equal _ e)) (ap is_eq (timer_at-rises i j h))

pub same_place : (i j : ℕ) → i ≡ j → eq_by_cmp timer_cmp (timer_at i) (timer_at j) ≡ true
same_place i j e = rw e (ap is_eq (tied_itself timers_total (timer_at j)))

pub earlier_place : (i j : ℕ) → i < j → eq_by_cmp timer_cmp (timer_at j) (timer_at i) ≡ false
earlier_place i j h = ap is_eq (timers_total.antisymm (timer_at j) (timer_at i) ∙ ap ordering_reverse (timer_at-rises i j h))
