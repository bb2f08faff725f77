-- A receiver accepts messages in turn, over every list of units.
use Rattle.std.proofs.Common.{◌≡◌, ℕ, ◌==◌, Bool, true, false, if◌then◌else◌, List, [], ◌∷◌, ◌++◌, length, map, refl, ap, sym, ◌∙◌, arith}
use Rattle.std.proofs.lemmas.Bool.Decides.{nat_tests}
use Rattle.resend_store.specs.declared.messages.Mode.{Mode}
use Rattle.resend_store.specs.declared.messages.Mode.TheVariants.{Basic, Cyclic}
use Rattle.resend_store.specs.Numbers.{plus}
use Rattle.resend_store.specs.Intake.{Intake, Hearing, first_intake, accepts, discards, refuses, is_in_turn, hear_agreeing, hear_unlike, hear_by, hear}
use Rattle.resend_store.specs.Runs.{counted}
use Rattle.resend_store.specs.Hearings.{Heard, hear_unit, is_accept, accepted_units, AcceptsInTurn}
use Rattle.std.proofs.lemmas.Bool.{and_parts as both}
use Rattle.plain_laws.proofs.Truths.{by_test}

-- the effect of one unit after this last accepted number
pub data HearIs (last fsn : ℕ) (has_msu : Bool) (s : Hearing) : Type 0 where
  taken : is_accept s.verdict ≡ true → has_msu ≡ true → fsn ≡ plus last 1 → s.known.last ≡ fsn → HearIs last fsn has_msu s
  passed : is_accept s.verdict ≡ false → s.known.last ≡ last → HearIs last fsn has_msu s

same_number : (m n : ℕ) → (m == n) ≡ true → m ≡ n
same_number m n h = grind (arith, nat_tests)

accepts_is : (r : Intake) (fsn : ℕ) (has_msu : Bool) → is_in_turn r fsn has_msu ≡ true → HearIs r.last fsn has_msu (accepts r)
accepts_is r fsn has_msu h =
    let parts = both has_msu (fsn == plus r.last 1) h in
    let e = same_number fsn (plus r.last 1) parts.1 in
    taken refl parts.0 e (sym e)

agreeing_is : (r : Intake) (fsn : ℕ) (has_msu : Bool) → HearIs r.last fsn has_msu (hear_agreeing r fsn has_msu)
agreeing_is r fsn has_msu =
    let P : Hearing → Type 0 = λ s. HearIs r.last fsn has_msu s in
    by_test P (is_in_turn r fsn has_msu) (accepts r) (if fsn == r.last then discards r else refuses r) (accepts_is r fsn has_msu)
    (λ _. by_test P (fsn == r.last) (discards r) (refuses r) (λ _. passed refl refl) (λ _. passed refl refl))

unlike_is : (r : Intake) (fsn : ℕ) (has_msu b : Bool) → b ≡ r.nack_out → HearIs r.last fsn has_msu (hear_unlike r)
unlike_is r fsn has_msu true e = rw (← e) (passed refl refl)
unlike_is r fsn has_msu false e = rw (← e) (passed refl refl)

by_mode_is : (m : Mode) (r : Intake) (fsn fib : ℕ) (has_msu : Bool) → HearIs r.last fsn has_msu (hear_by m r fsn fib has_msu)
by_mode_is Basic r fsn fib has_msu =
    let P : Hearing → Type 0 = λ s. HearIs r.last fsn has_msu s in
    by_test P (fib == r.bib) (hear_agreeing (record r { nack_out = false }) fsn has_msu) (hear_unlike r)
    (λ _. agreeing_is (record r { nack_out = false }) fsn has_msu) (λ _. unlike_is r fsn has_msu r.nack_out refl)
by_mode_is Cyclic r fsn fib has_msu =
    let P : Hearing → Type 0 = λ s. HearIs r.last fsn has_msu s in
    by_test P (is_in_turn r fsn has_msu) (accepts r) (discards r) (accepts_is r fsn has_msu) (λ _. passed refl refl)

pub hear_is : (r : Intake) (fsn fib : ℕ) (has_msu : Bool) → HearIs r.last fsn has_msu (hear r fsn fib has_msu)
hear_is r fsn fib has_msu = by_mode_is r.mode r fsn fib has_msu

-- ---- all units

more_numbers : (g us : List Heard) (u : Heard) (n : ℕ) → g ≡ u ∷ [] → u.fsn ≡ n → map (λ (u : Heard). u.fsn) us ≡ counted (plus u.fsn 1) (length us)
    → map (λ (u : Heard). u.fsn) (g ++ us) ≡ counted n (length (g ++ us))
more_numbers g us u n given e h =
    let rest : map (λ (u : Heard). u.fsn) us ≡ counted (plus n 1) (length us) = h ∙ ap (λ (k : ℕ). counted (plus k 1) (length us)) e in
    rw (given, e) (ap (λ (ns : List ℕ). n ∷ ns) rest)

no_numbers : (g us : List Heard) (n : ℕ) → g ≡ [] → map (λ (u : Heard). u.fsn) us ≡ counted n (length us) → map (λ (u : Heard). u.fsn) (g ++ us) ≡ counted n (length (g ++ us))
no_numbers g us n given h = rw given h

numbers_from : (last : ℕ) (r : Intake) (us : List Heard) → r.last ≡ last → map (λ (u : Heard). u.fsn) (accepted_units r us) ≡ counted (plus last 1) (length (accepted_units r us))
numbers_from last r [] e = refl
numbers_from last r (u ∷ us) e =
    let s = hear_unit r u in
    let g : List Heard = if is_accept s.verdict then u ∷ [] else [] in
    elim (by_mode_is r.mode r u.fsn u.fib u.has_msu) [
      | taken accept message number known ↦
          more_numbers g (accepted_units s.known us) u (plus last 1) (ap (λ (b : Bool). if b then u ∷ [] else []) accept) (number ∙ ap (λ (n : ℕ). plus n 1) e)
          (numbers_from u.fsn s.known us known)
      | passed other known ↦
          no_numbers g (accepted_units s.known us) (plus last 1) (ap (λ (b : Bool). if b then u ∷ [] else []) other) (numbers_from last s.known us (known ∙ e))
    ]

more_messages : (g us : List Heard) (u : Heard) → g ≡ u ∷ [] → u.has_msu ≡ true → map (λ (u : Heard). u.has_msu) us ≡ map (λ (u : Heard). true) us
    → map (λ (u : Heard). u.has_msu) (g ++ us) ≡ map (λ (u : Heard). true) (g ++ us)
more_messages g us u given e h = rw (given, e) (ap (λ (bs : List Bool). true ∷ bs) h)

no_messages : (g us : List Heard) → g ≡ [] → map (λ (u : Heard). u.has_msu) us ≡ map (λ (u : Heard). true) us → map (λ (u : Heard). u.has_msu) (g ++ us) ≡ map (λ (u : Heard). true) (g ++ us)
no_messages g us given h = rw given h

messages_from : (r : Intake) (us : List Heard) → map (λ (u : Heard). u.has_msu) (accepted_units r us) ≡ map (λ (u : Heard). true) (accepted_units r us)
messages_from r [] = refl
messages_from r (u ∷ us) =
    let s = hear_unit r u in
    let g : List Heard = if is_accept s.verdict then u ∷ [] else [] in
    elim (by_mode_is r.mode r u.fsn u.fib u.has_msu) [
      | taken accept message number known ↦
          more_messages g (accepted_units s.known us) u (ap (λ (b : Bool). if b then u ∷ [] else []) accept) message (messages_from s.known us)
      | passed other known ↦
          no_messages g (accepted_units s.known us) (ap (λ (b : Bool). if b then u ∷ [] else []) other) (messages_from s.known us)
    ]

pub accepts_in_turn : AcceptsInTurn
accepts_in_turn = record {
  numbers = λ r us. numbers_from r.last r us refl;
  messages = messages_from;
  from_start = λ mode us. numbers_from 127 (first_intake mode) us refl;
}
