-- The meaning of the tests of a window.
use Rattle.std.proofs.Common.{◌≡◌, ℕ, ◌<◌, zero, suc, ◌==◌, ◌&&◌, nat_lt, Bool, true, false, List, length, take, refl, arith}
use Rattle.std.proofs.lemmas.Bool.Decides.{nat_tests}
use Rattle.resend_store.specs.declared.messages.Msu.{Msu}
use Rattle.resend_store.specs.declared.messages.RoundLimits.{RoundLimits}
use Rattle.resend_store.specs.Messages.{reaches_limit}
use Rattle.resend_store.specs.Window.{Window, may_send}

-- a new message may go out only if one waits
pub may_waits : (w : Window) → may_send w ≡ true → w.sent < length w.kept
may_waits w h = grind (arith, nat_tests)

-- a limit is reached only if a message is sent
pub limit_sent : (limits : RoundLimits) (n : ℕ) (ms : List Msu) → reaches_limit limits (take n ms) ≡ true → 0 < n
limit_sent limits zero ms h = absurd (cc)
limit_sent limits (suc n) ms h = omega arith

-- ---- equivalent tests have equal results

lt_alike : (b c : Bool) (m n i j : ℕ) → nat_lt m n ≡ b → nat_lt i j ≡ c → (m < n → i < j) → (i < j → m < n) → b ≡ c
lt_alike true true m n i j e f h k = refl
lt_alike false false m n i j e f h k = refl
lt_alike true false m n i j e f h k = let lt : m < n = grind (arith, nat_tests) in let il = h lt in grind (arith, nat_tests)
lt_alike false true m n i j e f h k = let lt : i < j = grind (arith, nat_tests) in let il = k lt in grind (arith, nat_tests)

pub same_lt : (m n i j : ℕ) → (m < n → i < j) → (i < j → m < n) → nat_lt m n ≡ nat_lt i j
same_lt m n i j h k = lt_alike (nat_lt m n) (nat_lt i j) m n i j refl refl h k

eq_alike : (b c : Bool) (m n i j : ℕ) → (m == n) ≡ b → (i == j) ≡ c → (m ≡ n → i ≡ j) → (i ≡ j → m ≡ n) → b ≡ c
eq_alike true true m n i j e f h k = refl
eq_alike false false m n i j e f h k = refl
eq_alike true false m n i j e f h k = let same : m ≡ n = grind (arith, nat_tests) in let others = h same in grind (arith, nat_tests)
eq_alike false true m n i j e f h k = let same : i ≡ j = grind (arith, nat_tests) in let others = k same in grind (arith, nat_tests)

pub same_eq : (m n i j : ℕ) → (m ≡ n → i ≡ j) → (i ≡ j → m ≡ n) → (m == n) ≡ (i == j)
same_eq m n i j h k = eq_alike (m == n) (i == j) m n i j refl refl h k

pub both_same : (a b c d : Bool) → a ≡ b → c ≡ d → (a && c) ≡ (b && d)
both_same a b c d e f = rw (e, f) refl

pub not_above_zero : (n : ℕ) → nat_lt 0 n ≡ false → n ≡ 0
not_above_zero n h = grind (arith, nat_tests)
