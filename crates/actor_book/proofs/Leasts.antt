-- The least actor that can have a turn, and runs of turns.
use Rattle.std.proofs.Common.{◌≡◌, ℕ, ◌+◌, ◌-◌, ◌<◌, ◌≤◌, zero, suc, Option, Some, None, refl, sym, ap, ◌∙◌, subst, ◌⊎◌, inl, inr, add-zero, arith}
use Rattle.std.proofs.Math.Nat.{eq-or-lt_of_le}
use Rattle.std.specs.Prelude.{◌≢◌}
use Rattle.actor_machine.specs.Ledger.{Ledger, ask}
use Rattle.actor_machine.specs.declared.event.Event.TheVariants.{Begin, Skip}
use Rattle.actor_machine.specs.declared.reply.Refusal.{Refusal}
use Rattle.actor_machine.specs.declared.reply.Refusal.TheVariants.{SkipFirst}
use Rattle.actor_book.specs.declared.turn.Turn.{Turn}
use Rattle.actor_book.specs.declared.turn.Turn.TheVariants.{Made, Blocked, Idle}
use Rattle.actor_book.specs.Turns.{Tried, stays, turn_refused, refusal_in, skips_by, by_refusal, begins_by, tried, actors_in, first_that, first_from, least_turn, Rested, goes_on, rests}
use Rattle.actor_book.specs.Laws.{IsLeast, IsTurn, of_least, of_none, TurnLaw, IsRun, spent, none_can, blocked, goes, RestLaw}

-- ---- a try that isn't Made leaves the book as it is

is_same : Ledger → Tried → Turn → Type 0
is_same b t Made = Unit {0}
is_same b t Blocked = t.book ≡ b
is_same b t Idle = t.book ≡ b

stays_same : (b : Ledger) (t : Turn) → is_same b (stays b t) t
unfolding is_same
stays_same b Made = tt
stays_same b Blocked = refl
stays_same b Idle = refl

skips_same : (b c : Ledger) (o : Option Refusal) → is_same b (skips_by b c o) (skips_by b c o).turn
unfolding is_same
skips_same b c None = tt
skips_same b c (Some r) = stays_same b (turn_refused r)

refusal_same : (n : ℕ) (b : Ledger) (r : Refusal) → is_same b (by_refusal n b r) (by_refusal n b r).turn
refusal_same n b SkipFirst = skips_same b (ask b (Skip n)).book (refusal_in (ask b (Skip n)).answer)
refusal_same n b r = stays_same b (turn_refused r)

begins_same : (n : ℕ) (b c : Ledger) (o : Option Refusal) → is_same b (begins_by n b c o) (begins_by n b c o).turn
unfolding is_same
begins_same n b c None = tt
begins_same n b c (Some r) = refusal_same n b r

tried_same : (n : ℕ) (b : Ledger) → is_same b (tried n b) (tried n b).turn
unfolding tried
tried_same n b = begins_same n b (ask b (Begin n)).book (refusal_in (ask b (Begin n)).answer)

same_by : (b : Ledger) (t : Tried) (u : Turn) → is_same b t u → u ≢ Made → t.book ≡ b
unfolding is_same
same_by b t Made h k = absurd (k refl)
same_by b t Blocked h k = h
same_by b t Idle h k = h

pub tried_unchanged : (n : ℕ) (b : Ledger) → (tried n b).turn ≢ Made → (tried n b).book ≡ b
tried_unchanged n b k = same_by b (tried n b) (tried n b).turn (tried_same n b) k

-- ---- the least actor

found_by : (t u : Tried) (v : Turn) → v ≢ Idle → first_that t u v ≡ t
found_by t u Made h = refl
found_by t u Blocked h = refl
found_by t u Idle h = absurd (h refl)

pub blocked_not_made : Blocked ≢ Made
blocked_not_made h = cc

pub idle_not_made : Idle ≢ Made
idle_not_made h = cc

pub made_not_idle : Made ≢ Idle
made_not_idle h = cc

pub blocked_not_idle : Blocked ≢ Idle
blocked_not_idle h = cc

not_by : (t u v : Turn) → t ≡ u → u ≢ v → t ≢ v
not_by t u v h k e = k (sym h ∙ e)

at_most : (m n : ℕ) → m < n + 1 → m ≤ n
at_most m n h = omega arith

lesser_by : (b : Ledger) (m n : ℕ) → ((m ≡ n) ⊎ (m < n)) → ((m : ℕ) → m < n → (tried m b).turn ≡ Idle) → (tried n b).turn ≡ Idle
    → (tried m b).turn ≡ Idle
lesser_by b m n (inl e) before h = ap (λ (k : ℕ). (tried k b).turn) e ∙ h
lesser_by b m n (inr less) before h = before m less

lesser_next : (b : Ledger) (n : ℕ) → ((m : ℕ) → m < n → (tried m b).turn ≡ Idle) → (tried n b).turn ≡ Idle → (m : ℕ) → m < n + 1
    → (tried m b).turn ≡ Idle
lesser_next b n before h m less = lesser_by b m n (eq-or-lt_of_le (at_most m n less)) before h

-- the search's result with the turn of actor n, if the rest of the search is known
by_turn : (b : Ledger) (n : ℕ) (u : Tried) (t : Turn) → n < actors_in b → ((m : ℕ) → m < n → (tried m b).turn ≡ Idle)
    → (tried n b).turn ≡ t → ((tried n b).turn ≡ Idle → IsTurn b u) → IsTurn b (first_that (tried n b) u t)
by_turn b n u Made there before e rest =
    of_least n (record { there = there; can = not_by (tried n b).turn Made Idle e made_not_idle; lesser = before })
by_turn b n u Blocked there before e rest =
    of_least n (record { there = there; can = not_by (tried n b).turn Blocked Idle e blocked_not_idle; lesser = before })
by_turn b n u Idle there before e rest = rest e

first_is : (k n : ℕ) (b : Ledger) → n + k ≡ actors_in b → ((m : ℕ) → m < n → (tried m b).turn ≡ Idle) → IsTurn b (first_from k n b)
unfolding first_from
first_is zero n b h before =
    let same : n ≡ actors_in b = omega (arith, h) in
    of_none (λ m less. before m (let P : ℕ → Type 0 = λ k. m < k in subst P (sym same) less))
first_is (suc k) n b h before =
    by_turn b n (first_from k (n + 1) b) (tried n b).turn (omega (arith, h)) before refl
    (λ e. first_is k (n + 1) b (omega (arith, h)) (lesser_next b n before e))

pub turn_law : TurnLaw
unfolding least_turn
turn_law b = first_is (actors_in b) 0 b (omega arith) (λ m h. let f : ⊥ = omega (arith, h) in absurd f)

unchanged_by : (b : Ledger) (t : Tried) → IsTurn b t → t.turn ≢ Made → t.book ≡ b
unchanged_by b _ (of_least n l) h = tried_unchanged n b h
unchanged_by b _ (of_none none) h = refl

pub least_unchanged : (b : Ledger) → (least_turn b).turn ≢ Made → (least_turn b).book ≡ b
least_unchanged b h = unchanged_by b (least_turn b) (turn_law b) h

-- ---- runs

run_by : (k : ℕ) (b : Ledger) (n : ℕ) (r : Rested) (t : Turn) → IsLeast b n → (tried n b).turn ≡ t → IsRun k (tried n b).book r.turns r.book
    → IsRun (suc k) b (goes_on b r t).turns (goes_on b r t).book
run_by k b n r Made l e run = goes k b n r.turns r.book l e run
run_by k b n r Blocked l e run = blocked (suc k) b n l e
run_by k b n r Idle l e run = absurd (l.can e)

run_from : (k : ℕ) (b : Ledger) (t : Tried) (r : Rested) → IsTurn b t → IsRun k t.book r.turns r.book
    → IsRun (suc k) b (goes_on b r t.turn).turns (goes_on b r t.turn).book
run_from k b _ r (of_least n l) run = run_by k b n r (tried n b).turn l refl run
run_from k b _ r (of_none none) run = none_can (suc k) b none

pub rest_law : RestLaw
unfolding rests
rest_law zero b = spent b
rest_law (suc k) b = run_from k b (least_turn b) (rests k (least_turn b).book) (turn_law b) (rest_law k (least_turn b).book)

-- ---- the two loops

-- the search so far found no turn
first_step : (k m n : ℕ) (b : Ledger) (t : Turn) → k ≡ suc m → (tried n b).turn ≡ t → first_from k n b ≡ first_that (tried n b) (first_from m (n + 1) b) t
unfolding first_from
first_step k m n b t h e =
    ap (λ (j : ℕ). first_from j n b) h ∙ ap (λ (u : Turn). first_that (tried n b) (first_from m (n + 1) b) u) e

left_over : (total n : ℕ) → n < total → total - n ≡ suc (total - (n + 1))
left_over total n h = omega arith

pub search_starts : (b : Ledger) → first_from (actors_in b - 0) 0 b ≡ least_turn b
unfolding least_turn
search_starts b = ap (λ (k : ℕ). first_from k 0 b) (let e : actors_in b - 0 ≡ actors_in b = omega arith in e)

is_found : (total n : ℕ) (b : Ledger) (r : Tried) → n < total → first_from (total - n) n b ≡ r → (tried n b).turn ≢ Idle → tried n b ≡ r
is_found total n b r h e t =
    sym (found_by (tried n b) (first_from (total - (n + 1)) (n + 1) b) (tried n b).turn t)
    ∙ sym (first_step (total - n) (total - (n + 1)) n b (tried n b).turn (left_over total n h) refl)
    ∙ e

-- `first` is the book before the search, `b` the book before actor n's try, and `after` the book after it
pub search_ends : (first b after : Ledger) (n : ℕ) (t : Turn) → b ≡ first → n < actors_in first
    → first_from (actors_in first - n) n first ≡ least_turn first → t ≡ (tried n b).turn → t ≢ Idle → after ≡ (tried n b).book
    → (t ≡ (least_turn first).turn) × (after ≡ (least_turn first).book)
search_ends first b after n t same h e turn some book =
    let here : (tried n b).turn ≡ (tried n first).turn = ap (λ (x : Ledger). (tried n x).turn) same in
    let found : tried n first ≡ least_turn first =
    is_found (actors_in first) n first (least_turn first) h e (not_by (tried n first).turn t Idle (sym here ∙ sym turn) some) in (
      turn ∙ here ∙ ap (λ (x : Tried). x.turn) found,
      book ∙ ap (λ (x : Ledger). (tried n x).book) same ∙ ap (λ (x : Tried). x.book) found,
    )

pub search_goes_on : (first b after : Ledger) (n : ℕ) → b ≡ first → n < actors_in first → first_from (actors_in first - n) n first ≡ least_turn first
    → Idle ≡ (tried n b).turn → after ≡ (tried n b).book
    → (after ≡ first) × (first_from (actors_in first - (n + 1)) (n + 1) first ≡ least_turn first)
search_goes_on first b after n same h e turn book =
    let here : (tried n first).turn ≡ Idle = sym (ap (λ (x : Ledger). (tried n x).turn) same) ∙ sym turn in (
      book ∙ tried_unchanged n b (not_by (tried n b).turn Idle Made (sym turn) idle_not_made) ∙ same,
      sym (first_step (actors_in first - n) (actors_in first - (n + 1)) n first Idle (left_over (actors_in first) n h) here) ∙ e,
    )

nothing_left : (total n : ℕ) → total ≤ n → total - n ≡ 0
nothing_left total n h = omega (arith, h)

no_actors : (n : ℕ) (b : Ledger) → first_from 0 n b ≡ stays b Idle
unfolding first_from
no_actors n b = refl

pub none_found : (first b : Ledger) (n : ℕ) → b ≡ first → actors_in first ≤ n → first_from (actors_in first - n) n first ≡ least_turn first
    → (Idle ≡ (least_turn first).turn) × (b ≡ (least_turn first).book)
none_found first b n same h e =
    let none : stays first Idle ≡ least_turn first =
    sym (no_actors n first) ∙ sym (ap (λ (k : ℕ). first_from k n first) (nothing_left (actors_in first) n h)) ∙ e in
    (ap (λ (x : Tried). x.turn) none, same ∙ ap (λ (x : Tried). x.book) none)

rest_step : (k m : ℕ) (b : Ledger) (t : Turn) → k ≡ suc m → (least_turn b).turn ≡ t → rests k b ≡ goes_on b (rests m (least_turn b).book) t
unfolding rests
rest_step k m b t h e =
    ap (λ (j : ℕ). rests j b) h ∙ ap (λ (u : Turn). goes_on b (rests m (least_turn b).book) u) e

no_more : (b : Ledger) (r : Rested) (t : Turn) → t ≢ Made → goes_on b r t ≡ record { book = b; turns = 0 }
no_more b r Made h = absurd (h refl)
no_more b r Blocked h = refl
no_more b r Idle h = refl

zero_more : (n k m : ℕ) → k + n ≡ m → k ≡ 0 → n ≡ m
zero_more n k m h e = omega (arith, h, e)

one_more_turn : (n k j m : ℕ) → k + n ≡ m → k ≡ j + 1 → j + (n + 1) ≡ m
one_more_turn n k j m h e = omega (arith, h, e)

-- after n of these turns, with the book b: the remaining turns lead to `r`
pub record Rests (total n : ℕ) (b : Ledger) (r : Rested) : Type 0 where
  pub book : (rests (total - n) b).book ≡ r.book
  pub turns : (rests (total - n) b).turns + n ≡ r.turns

pub rest_starts : (total : ℕ) (b : Ledger) → Rests total 0 b (rests total b)
rest_starts total b =
    let same : total - 0 ≡ total = omega arith in
    record {
      book = ap (λ (k : ℕ). (rests k b).book) same;
      turns = add-zero (rests (total - 0) b).turns ∙ ap (λ (k : ℕ). (rests k b).turns) same;
    }

pub rest_ends : (total n : ℕ) (b after : Ledger) (r : Rested) (t : Turn) → n < total → Rests total n b r → t ≡ (least_turn b).turn → t ≢ Made
    → after ≡ (least_turn b).book → (n ≡ r.turns) × (after ≡ r.book)
rest_ends total n b after r t h rest turn stop book =
    let last : rests (total - n) b ≡ record { book = b; turns = 0 } =
    rest_step (total - n) (total - (n + 1)) b t (left_over total n h) (sym turn) ∙ no_more b (rests (total - (n + 1)) (least_turn b).book) t stop in (
      zero_more n (rests (total - n) b).turns r.turns rest.turns (ap (λ (x : Rested). x.turns) last),
      book ∙ least_unchanged b (not_by (least_turn b).turn t Made (sym turn) stop) ∙ sym (ap (λ (x : Rested). x.book) last) ∙ rest.book,
    )

pub rest_goes_on : (total n : ℕ) (b after : Ledger) (r : Rested) → n < total → Rests total n b r → Made ≡ (least_turn b).turn
    → after ≡ (least_turn b).book → Rests total (n + 1) after r
rest_goes_on total n b after r h rest turn book =
    let next : rests (total - n) b ≡ goes_on b (rests (total - (n + 1)) (least_turn b).book) Made =
    rest_step (total - n) (total - (n + 1)) b Made (left_over total n h) (sym turn) in
    let here : rests (total - (n + 1)) after ≡ rests (total - (n + 1)) (least_turn b).book = ap (rests (total - (n + 1))) book in
    record {
      book = ap (λ (x : Rested). x.book) here ∙ sym (ap (λ (x : Rested). x.book) next) ∙ rest.book;
      turns = one_more_turn n (rests (total - n) b).turns (rests (total - (n + 1)) after).turns r.turns rest.turns
          (ap (λ (x : Rested). x.turns) next ∙ sym (ap (λ (x : Rested). x.turns + 1) here));
    }

no_turns : (b : Ledger) → rests 0 b ≡ record { book = b; turns = 0 }
unfolding rests
no_turns b = refl

pub rest_is_spent : (total n : ℕ) (b : Ledger) (r : Rested) → n ≡ total → Rests total n b r → (total ≡ r.turns) × (b ≡ r.book)
rest_is_spent total n b r h rest =
    let none : total - n ≡ 0 = omega (arith, h) in
    let last : rests (total - n) b ≡ record { book = b; turns = 0 } = ap (λ (k : ℕ). rests k b) none ∙ no_turns b in (
      sym h ∙ zero_more n (rests (total - n) b).turns r.turns rest.turns (ap (λ (x : Rested). x.turns) last),
      sym (ap (λ (x : Rested). x.book) last) ∙ rest.book,
    )
