-- The remaining orders, if they are known.
use Rattle.std.proofs.Common.{◌≡◌, ℕ, ◌<◌, ◌≤◌, false, List, [], ◌∷◌, ◌++◌, length, Option, None, Some, refl, sym, ap, ◌∙◌, option_map, rules}
use Rattle.std.specs.Prelude.{IsSome, IfSome, string_bytes}
use Rattle.std.specs.Io.KnownBytes.{Consumes, IsAtEnd}
use Rattle.line_filter.specs.Orders.{Timed, NextIs, NoneIsDue, Stays}
use Rattle.line_filter.specs.Streams.{waiting_by, behind_of, left_in, IsHeld}
use Rattle.line_filter.specs.Reading.{IsRead}
use Rattle.line_filter.specs.declared.lines.OrderLines.{OrderLines}
use Rattle.line_filter.proofs.Looking.{nothing_left}

pub stays_same : (o : Option (List Timed)) → Stays o o
stays_same None = tt
stays_same (Some os) = refl

pub stays_on : (o : Option (List Timed)) (r : Option (List ℕ)) (f g : List ℕ → List Timed) → ((more : List ℕ) → g more ≡ f more)
    → Stays o (option_map f r) → Stays o (option_map g r)
stays_on None r f g alike h = tt
stays_on (Some os) None f g alike h = h
stays_on (Some os) (Some xs) f g alike h = alike xs ∙ h

pub stays_read : (o m n : Option (List Timed)) → Stays o m → Stays m n → Stays o n
stays_read None m n h k = tt
stays_read (Some os) None n h k = absurd h
stays_read (Some os) (Some ms) None h k = k
stays_read (Some os) (Some ms) (Some ns) h k = k ∙ h

pub none_left : (now : ℕ) (o m n : Option (List Timed)) → Stays o m → IsRead false m n → NoneIsDue now o n
none_left now None m n h k = tt
none_left now (Some os) None n h k = absurd h
none_left now (Some os) (Some ms) None h k = absurd k
none_left now (Some os) (Some ms) (Some ns) h k =
    let e : os ≡ [] = sym h ∙ k.0 in
    rw e k.1

pub next_due : (now : ℕ) (o : Option (List Timed)) (r : Option (List ℕ)) (f g : List ℕ → List Timed) (since : ℕ) (text : List ℕ) → since ≤ now
    → ((more : List ℕ) → f more ≡ record { at = since; text = text } ∷ g more) → Stays o (option_map f r) → NextIs now o text (option_map g r)
next_due now None r f g since text low alike h = tt
next_due now (Some os) None f g since text low alike h = absurd h
next_due now (Some os) (Some xs) f g since text low alike h =
    let e : os ≡ record { at = since; text = text } ∷ g xs = sym h ∙ alike xs in
    rw e (refl, refl, low)

pub not_due : (now : ℕ) (o : Option (List Timed)) (r : Option (List ℕ)) (f g : List ℕ → List Timed) (since : ℕ) (text : List ℕ) → now < since
    → ((more : List ℕ) → f more ≡ record { at = since; text = text } ∷ g more) → Stays o (option_map f r) → NoneIsDue now o (option_map f r)
not_due now None r f g since text late alike h = tt
not_due now (Some os) None f g since text late alike h = absurd h
not_due now (Some os) (Some xs) f g since text late alike h =
    let e : os ≡ record { at = since; text = text } ∷ g xs = sym h ∙ alike xs in
    rw e (alike xs, late)

pub read_to_end : (l : OrderLines) (old new : Option (List ℕ)) → length l.part.items ≤ l.from → l.waiting ≡ None → Consumes old new [] → IsAtEnd new
    → IsRead false (option_map (left_in l) old) (option_map (left_in l) new)
read_to_end l None new all none h end = tt
read_to_end l (Some xs) None all none h end = absurd h
read_to_end l (Some xs) (Some ys) all none h end =
    let here : left_in l ys ≡ [] = ap (left_in l) end ∙ nothing_left l all none in
    (ap (left_in l) h ∙ here, here)

-- The waiting order is taken, or stays.
pub taken : {S : Type 0} (bytes : S → List ℕ) (since now : ℕ) (behind : List ℕ → List Timed) (w r n : Option S) → r ≡ w → n ≡ None → since ≤ now
    → IfSome r (λ text. (since ≤ now) × ((more : List ℕ) → waiting_by since (option_map bytes w) ++ behind more
    ≡ record { at = since; text = bytes text } ∷ (waiting_by since (option_map bytes n) ++ behind more)))
taken bytes since now behind w None n er en low = tt
taken bytes since now behind w (Some t) n er en low = (low, λ more. rw (← er, en) refl)

held_by : {S : Type 0} (bytes : S → List ℕ) (w : Option S) (since : ℕ) (rest : List ℕ → List Timed) → IsSome w
    → (text : List ℕ) × ((more : List ℕ) → waiting_by since (option_map bytes w) ++ rest more ≡ record { at = since; text = text } ∷ rest more)
held_by bytes None since rest some = search (rules, some)
held_by bytes (Some t) since rest some = (bytes t, λ more. refl)

pub held : (l : OrderLines) (now : ℕ) → IsSome l.waiting → now < l.since → IsHeld now l
unfolding left_in
held l now some late =
    let it = held_by string_bytes l.waiting l.since (behind_of l) some in
    record { later = late; text = it.0; left = it.1 }
