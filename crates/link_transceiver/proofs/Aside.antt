-- The receiver while messages are discarded.
use Rattle.std.proofs.Common.{◌≡◌, ℕ, ◌==◌, ◌&&◌, Bool, true, false, not, None, Result, Ok, Err, refl, sym, ap, ◌∙◌}
use Rattle.std.specs.Prelude.{if◌then◌else◌}
use Rattle.resend_store.specs.declared.messages.Mode.{Mode}
use Rattle.resend_store.specs.declared.messages.Mode.TheVariants.{Basic, Cyclic}
use Rattle.resend_store.specs.declared.refusals.UnitError.TheVariants.{BadIndicator}
use Rattle.resend_store.specs.Intake.{Intake, Hearing, hear_aside, hear_by, hear_agreeing, hear_unlike, accepts as takes_one, discards, refuses, is_in_turn}
use Rattle.su_octets.specs.declared.units.Head.{Head}
use Rattle.link_transceiver.specs.Judging.{hears, sets_aside, hearing, fault_in}
use Rattle.link_transceiver.specs.Laws.{is_accept}

-- ---- the receiver's state

unlike-known : (r : Intake) (b : Bool) → (if◌then◌else◌ {A = Hearing} b (discards r) (record { verdict = Err BadIndicator; known = r })).known ≡ r
unlike-known r true = refl
unlike-known r false = refl

basic-known : (r : Intake) (b : Bool) → (if◌then◌else◌ {A = Hearing} b (discards r) (hear_unlike r)).known ≡ r
basic-known r true = refl
basic-known r false = unlike-known r r.nack_out

aside-known : (m : Mode) (r : Intake) (fib : ℕ) → (hear_aside m r fib).known ≡ r
aside-known Basic r fib = basic-known r (fib == r.bib)
aside-known Cyclic r fib = refl

pub known_stays : (r : Intake) (fib : ℕ) → r ≡ (sets_aside r fib).known
unfolding sets_aside
known_stays r fib = sym (aside-known r.mode r fib)

-- ---- accepted messages

unlike-none : (r : Intake) (b : Bool) → is_accept (if◌then◌else◌ {A = Hearing} b (discards r) (record { verdict = Err BadIndicator; known = r })).verdict ≡ false
unfolding is_accept
unlike-none r true = refl
unlike-none r false = refl

basic-none : (r : Intake) (b : Bool) → is_accept (if◌then◌else◌ {A = Hearing} b (discards r) (hear_unlike r)).verdict ≡ false
unfolding is_accept
basic-none r true = refl
basic-none r false = unlike-none r r.nack_out

aside-none : (m : Mode) (r : Intake) (fib : ℕ) → is_accept (hear_aside m r fib).verdict ≡ false
unfolding is_accept
aside-none Basic r fib = basic-none r (fib == r.bib)
aside-none Cyclic r fib = refl

pub none_accepted : (accepting : Bool) (r : Intake) (head : Head) (has_msu : Bool) → accepting ≡ false → is_accept (hearing accepting r head has_msu).verdict ≡ false
unfolding hearing sets_aside
none_accepted true r head has_msu e = absurd (cc)
none_accepted false r head has_msu e = aside-none r.mode r head.fib

pub known_aside : (accepting : Bool) (r : Intake) (head : Head) (has_msu : Bool) → accepting ≡ false → (hearing accepting r head has_msu).known ≡ r
unfolding hearing sets_aside
known_aside true r head has_msu e = absurd (cc)
known_aside false r head has_msu e = aside-known r.mode r head.fib

pub held_accepts : (deliver held : Bool) → held ≡ true → (deliver && not held) ≡ false
held_accepts true true e = refl
held_accepts true false e = absurd (cc)
held_accepts false held e = refl

-- ---- faults

last-none : (r : Intake) (b : Bool) → None ≡ fault_in (if◌then◌else◌ {A = Hearing} b (discards r) (refuses r)).verdict
last-none r true = refl
last-none r false = refl

agreeing-none : (r : Intake) (fsn : ℕ) (b : Bool) →
    None ≡ fault_in (if◌then◌else◌ {A = Hearing} b (takes_one r) (if fsn == r.last then discards r else refuses r)).verdict
agreeing-none r fsn true = refl
agreeing-none r fsn false = last-none r (fsn == r.last)

cyclic-none : (r : Intake) (b : Bool) → None ≡ fault_in (if◌then◌else◌ {A = Hearing} b (takes_one r) (discards r)).verdict
cyclic-none r true = refl
cyclic-none r false = refl

basic-fault : (r : Intake) (fsn : ℕ) (has_msu : Bool) (b : Bool) →
    fault_in (if◌then◌else◌ {A = Hearing} b (discards r) (hear_unlike r)).verdict
    ≡ fault_in (if◌then◌else◌ {A = Hearing} b (hear_agreeing (record r { nack_out = false }) fsn has_msu) (hear_unlike r)).verdict
basic-fault r fsn has_msu true = agreeing-none (record r { nack_out = false }) fsn (is_in_turn r fsn has_msu)
basic-fault r fsn has_msu false = refl

aside-fault : (m : Mode) (r : Intake) (fsn fib : ℕ) (has_msu : Bool) → fault_in (hear_aside m r fib).verdict ≡ fault_in (hear_by m r fsn fib has_msu).verdict
aside-fault Basic r fsn fib has_msu = basic-fault r fsn has_msu (fib == r.bib)
aside-fault Cyclic r fsn fib has_msu = cyclic-none r (is_in_turn r fsn has_msu)

pub same_fault : (r : Intake) (head : Head) (has_msu : Bool) → fault_in (sets_aside r head.fib).verdict ≡ fault_in (hears r head.fsn head.fib has_msu).verdict
unfolding sets_aside hears
same_fault r head has_msu = aside-fault r.mode r head.fsn head.fib has_msu
