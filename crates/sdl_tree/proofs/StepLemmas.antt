-- The steps that read a transition.
use Rattle.std.proofs.Common.{◌≡◌, ℕ, suc, zero, ◌<◌, ◌≤◌, Bool, true, false, List, [], ◌∷◌, ◌++◌, Option, length, refl, sym, ap, ◌∙◌, append_assoc, arith}
use Rattle.sdl_lex.specs.declared.lexemes.Token.{Token}
use Rattle.sdl_lex.specs.declared.lexemes.Word.TheVariants as words
use Rattle.sdl_productions.specs.Bodies.{Keeping, Body, Reached, Move, reaches, closes}
use Rattle.sdl_productions.specs.Tokens.{begins, a_word, an_action, an_end}
use Rattle.sdl_productions.specs.Readings.{Reading, read, fails, At, then_read, either, choice, optional, Shortens, NeverLonger}
use Rattle.sdl_productions.specs.Readings as reading
use Rattle.sdl_productions.specs.Productions.{end_at, behind_step, end_step, decision_step, action_step, step_at, after_move, steps_for, steps_from}
use Rattle.sdl_productions.proofs.Lengths.{last_keeps, body_step_takes, decision_step_takes, action_step_takes}
use Rattle.sdl_productions.proofs.Decides.{first, rest_of, with_rest, Seen, first-append}

-- A step that doesn't complete the transition consumes a token.

Advances : {S A T : Type 0} → At (Move S A T) → Type 0
Advances {S} {A} p = (ts : List Token) (s : Reached S A) (us : List Token) → p ts ≡ read (reaches s) us → length us < length ts

short_advances : {S A T : Type 0} (p : At (Move S A T)) → Shortens p → Advances p
unfolding Advances
short_advances p h0 ts s us h = h0 ts (reaches s) us h

behind_advances : {S A C T : Type 0} (k : Keeping S A C T) (outer : List (Body S A)) (text : T) → Advances (behind_step k outer text)
unfolding Advances
behind_advances k [] text ts s us h = cc
behind_advances k (body ∷ outer) text ts s us h = body_step_takes k outer body.branching body.head text ts (reaches s) us h

then_advances : {S A T X : Type 0} (p : At X) (q : X → At (Move S A T)) → NeverLonger p → ((x : X) → Advances (q x)) → Advances (reading.◌>>=◌ p q)
unfolding Advances
then_advances p q k each ts s us h = by_result p q k each ts s us (p ts) refl h
  where
    by_result : {S A T X : Type 0} (p : At X) (q : X → At (Move S A T)) → NeverLonger p → ((x : X) (ts : List Token) (s : Reached S A) (us : List Token) → q x ts ≡ read (reaches s) us → length us < length ts)
        → (ts : List Token) (s : Reached S A) (us : List Token) (r : Reading X) → p ts ≡ r → then_read r q ≡ read (reaches s) us → length us < length ts
    by_result p q k each ts s us (fails vs) e h = cc
    by_result p q k each ts s us (read x vs) e h =
        let a : length us < length vs = each x vs s us h in
        let l : length vs ≤ length ts = k ts x vs e in
        omega arith

either_advances : {S A T : Type 0} (c : Bool) (p q : At (Move S A T)) → Advances p → Advances q → Advances (either c p q)
either_advances true p q hp hq = hp
either_advances false p q hp hq = hq

choice_advances : {S A T B : Type 0} (f : Token → Option B) (p q : At (Move S A T)) → Advances p → Advances q → Advances (choice f p q)
unfolding Advances
choice_advances f p q hp hq ts s us h = either_advances (begins f ts) p q hp hq ts s us h

step_advances : {S A C T : Type 0} (k : Keeping S A C T) (s : Reached S A) → Advances (step_at k s)
unfolding step_at end_step
step_advances k s =
    choice_advances an_action (action_step k s) _ (short_advances (action_step k s) (action_step_takes k s))
    (choice_advances (a_word words.Decision) (decision_step k s) (end_step k s) (short_advances (decision_step k s) (decision_step_takes k s))
    (then_advances (optional an_end end_at) _ last_keeps (λ last. behind_advances k s.outer _)))

pub step_shortens : {S A C T : Type 0} (k : Keeping S A C T) (s t : Reached S A) (ts us : List Token) → step_at k s ts ≡ read (reaches t) us → length us < length ts
unfolding Advances
step_shortens k s t ts us h = step_advances k s ts t us h

-- A bound on the steps that exceeds the number of tokens can be raised without effect.

steps_one : {S A C T : Type 0} (k : Keeping S A C T) (n : ℕ) (s : Reached S A) (ts : List Token) → steps_for k (suc n) s ts ≡ then_read (step_at k s ts) (after_move (steps_for k n))
unfolding steps_for
steps_one k n s ts = refl

same_after : {S A C T : Type 0} (k : Keeping S A C T) (n m : ℕ) (s : Reached S A) (ts : List Token) → length ts < suc n → length ts < suc m
    → ((t : Reached S A) (us : List Token) → length us < n → length us < m → steps_for k n t us ≡ steps_for k m t us)
    → (r : Reading (Move S A T)) → step_at k s ts ≡ r → then_read r (after_move (steps_for k n)) ≡ then_read r (after_move (steps_for k m))
same_after k n m s ts h l ih (fails us) e = refl
same_after k n m s ts h l ih (read (closes text) us) e = refl
same_after k n m s ts h l ih (read (reaches t) us) e = let less = step_shortens k s t ts us e in ih t us (omega arith) (omega arith)

steps_enough : {S A C T : Type 0} (k : Keeping S A C T) (n m : ℕ) (s : Reached S A) (ts : List Token) → length ts < n → length ts < m → steps_for k n s ts ≡ steps_for k m s ts
steps_enough k zero m s ts h l = absurd (omega arith)
steps_enough k (suc n) zero s ts h l = absurd (omega arith)
steps_enough k (suc n) (suc m) s ts h l =
    steps_one k n s ts ∙ same_after k n m s ts h l (steps_enough k n m) (step_at k s ts) refl ∙ sym (steps_one k m s ts)

from_after : {S A C T : Type 0} (k : Keeping S A C T) (s : Reached S A) (ts : List Token) (r : Reading (Move S A T)) → step_at k s ts ≡ r
    → then_read r (after_move (steps_for k (length ts))) ≡ then_read r (after_move (steps_from k))
unfolding steps_from
from_after k s ts (fails us) e = refl
from_after k s ts (read (closes text) us) e = refl
from_after k s ts (read (reaches t) us) e = let less = step_shortens k s t ts us e in steps_enough k (length ts) (suc (length us)) t us less (omega arith)

-- All steps are one step, followed by the others.
pub from_step : {S A C T : Type 0} (k : Keeping S A C T) (s : Reached S A) (ts : List Token) → steps_from k s ts ≡ then_read (step_at k s ts) (after_move (steps_from k))
unfolding steps_from
from_step k s ts = steps_one k (length ts) s ts ∙ from_after k s ts (step_at k s ts) refl

pub from_reaches : {S A C T : Type 0} (k : Keeping S A C T) (s t : Reached S A) (ts us : List Token) → step_at k s ts ≡ read (reaches t) us → steps_from k s ts ≡ steps_from k t us
from_reaches k s t ts us e = from_step k s ts ∙ ap (λ r. then_read r (after_move (steps_from k))) e

pub from_closes : {S A C T : Type 0} (k : Keeping S A C T) (s : Reached S A) (ts us : List Token) (text : T) → step_at k s ts ≡ read (closes text) us → steps_from k s ts ≡ read text us
from_closes k s ts us text e = from_step k s ts ∙ ap (λ r. then_read r (after_move (steps_from k))) e

pub from_fails : {S A C T : Type 0} (k : Keeping S A C T) (s : Reached S A) (ts us : List Token) → step_at k s ts ≡ fails us → steps_from k s ts ≡ fails us
from_fails k s ts us e = from_step k s ts ∙ ap (λ r. then_read r (after_move (steps_from k))) e

-- The steps inspect at most one token ahead.

steps_seen : {S A C T : Type 0} (k : Keeping S A C T) (s : Reached S A) (ts : List Token) (r : Reading (Move S A T)) (front : List Token) → step_at k s ts ≡ r → ts ≡ front ++ rest_of r
    → ((us : List Token) → first us ≡ first (rest_of r) → step_at k s (front ++ us) ≡ with_rest r us)
    → ((t : Reached S A) (us : List Token) → length us < length ts → Seen (steps_from k t) us) → Seen (steps_from k s) ts
steps_seen k s ts (fails vs) front is parts again ih = record {
  result = fails vs;
  is = from_fails k s ts vs is;
  front = front;
  parts = parts;
  again = λ us h. from_fails k s (front ++ us) us (again us h);
}
steps_seen k s ts (read (closes text) vs) front is parts again ih = record {
  result = read text vs;
  is = from_closes k s ts vs text is;
  front = front;
  parts = parts;
  again = λ us h. from_closes k s (front ++ us) us text (again us h);
}
steps_seen k s ts (read (reaches t) vs) front is parts again ih =
    let seen = ih t vs (step_shortens k s t ts vs is) in
    record {
      result = seen.result;
      is = from_reaches k s t ts vs is ∙ seen.is;
      front = front ++ seen.front;
      parts = parts ∙ ap (λ zs. front ++ zs) seen.parts ∙ sym (append_assoc front seen.front (rest_of seen.result));
      again = λ us h.
          ap (steps_from k s) (append_assoc front seen.front us)
          ∙ from_reaches k s t (front ++ (seen.front ++ us)) (seen.front ++ us) (again (seen.front ++ us) (first-append seen.front us (rest_of seen.result) vs seen.parts h))
          ∙ seen.again us h;
    }

steps_look_for : {S A C T : Type 0} (k : Keeping S A C T) → ((s : Reached S A) (ts : List Token) → Seen (step_at k s) ts) → (n : ℕ) (s : Reached S A) (ts : List Token) → length ts < n → Seen (steps_from k s) ts
steps_look_for k looks zero s ts h = absurd (omega arith)
steps_look_for k looks (suc n) s ts h =
    let one = looks s ts in
    steps_seen k s ts one.result one.front one.is one.parts one.again (λ t us less. steps_look_for k looks n t us (omega arith))

pub steps_look : {S A C T : Type 0} (k : Keeping S A C T) → ((s : Reached S A) (ts : List Token) → Seen (step_at k s) ts) → (s : Reached S A) (ts : List Token) → Seen (steps_from k s) ts
steps_look k looks s ts = steps_look_for k looks (suc (length ts)) s ts (omega arith)
