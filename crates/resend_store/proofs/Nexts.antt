-- The two steps of a call to send return what its definition says.
use Rattle.std.proofs.Common.{◌≡◌, ℕ, ◌<◌, ◌⊎◌, inl, inr, zero, suc, ◌==◌, Bool, true, false, nat_lt, refl, arith}
use Rattle.std.proofs.lemmas.Bool.Decides.{nat_tests}
use Rattle.resend_store.specs.declared.messages.Mode.{Mode}
use Rattle.resend_store.specs.declared.messages.Mode.TheVariants.{Basic, Cyclic}
use Rattle.resend_store.specs.Window.{Window, IsWindow, UsesOnly, at_limit, next, next_by}
use Rattle.resend_store.specs.Steps.{settled, gives}
use Rattle.resend_store.proofs.WindowTests.{limit_sent as front_at_limit}
use Rattle.std.proofs.lemmas.Bool.{cases_Bool as true_or_false}

-- a test of a number
above_or_zero : (n : ℕ) → ((nat_lt 0 n ≡ true) × ((n == 0) ≡ false)) ⊎ (n ≡ 0)
above_or_zero zero = inr refl
above_or_zero (suc n) = inl (grind (arith, nat_tests), grind (arith, nat_tests))

in_basic : (w : Window) → w.mode ≡ Basic → UsesOnly Basic w → next_by Basic w ≡ gives (settled w)
in_basic w e u = rw (u.0, e) refl

unforced : (w : Window) → w.mode ≡ Cyclic → w.forced ≡ false → w.again ≡ 0 → next_by Cyclic w ≡ gives (settled w)
unforced w e f a = rw (f, a, e) refl

round_over : (w : Window) → w.mode ≡ Cyclic → w.again ≡ 0 → (b : Bool) → at_limit w ≡ b → w.forced ≡ true → next_by Cyclic w ≡ gives (settled w)
round_over w e a true l f =
    let sent : 0 < w.sent = front_at_limit w.limits w.sent w.kept l in
    let p : nat_lt 0 w.sent ≡ true = grind (arith, nat_tests) in
    rw (f, a, l, p) refl
round_over w e a false l f = rw (f, a, l, e) refl

in_round : (w : Window) → nat_lt 0 w.again ≡ true → (w.again == 0) ≡ false → w.forced ≡ true → next_by Cyclic w ≡ gives (settled w)
in_round w p z f = rw (f, z, p) refl

in_cyclic : (w : Window) → w.mode ≡ Cyclic → UsesOnly Cyclic w → next_by Cyclic w ≡ gives (settled w)
in_cyclic w e u = elim (true_or_false w.forced) [
  | inl f ↦ elim (above_or_zero w.again) [
    | inl h ↦ in_round w h.0 h.1 f
    | inr a ↦ round_over w e a (at_limit w) refl f
  ]
  | inr f ↦ unforced w e f (u.1 f)
]

by_mode : (m : Mode) (w : Window) → w.mode ≡ m → UsesOnly m w → next_by m w ≡ gives (settled w)
by_mode Basic w e u = in_basic w e u
by_mode Cyclic w e u = in_cyclic w e u

pub next_in_steps : (w : Window) → IsWindow w → next w ≡ gives (settled w)
next_in_steps w h = by_mode w.mode w refl h.by_mode
