-- Repeated items.
use Rattle.std.proofs.Common.{◌≡◌, ℕ, suc, zero, ◌+◌, ◌<◌, ◌≤◌, Bool, true, false, List, [], ◌∷◌, ◌++◌, Option, Some, None, length, refl, sym, ap, subst, ◌∙◌, append_assoc, arith, length-append}
use Rattle.sdl_lex.specs.declared.lexemes.Token.{Token}
use Rattle.sdl_lex.specs.declared.lexemes.Symbol.TheVariants.{Open, Close, Comma}
use Rattle.sdl_productions.specs.Tokens.{begins, a_symbol}
use Rattle.sdl_productions.specs.Grammar as grammar
use Rattle.sdl_productions.specs.Grammar.{Grammar, Many, no_more, one_more}
use Rattle.sdl_productions.specs.Readings.{Reading, read, fails, At, then_read, stands_for, either, many_for, many, give, token, prepend, Shortens}
use Rattle.sdl_productions.specs.Readings as reading
use Rattle.sdl_productions.proofs.Decides.{first, rest_of, with_rest, Seen, Decides, first-append, begins-first, give_decides, token_decides, ◌>>=◌, choice_decides}

pub shortens_token : {A : Type 0} (f : Token → Option A) → Shortens (token f)
shortens_token f [] x us h = cc
shortens_token f (t ∷ ts) x us h = by_answer (f t) t ts x us h
  where
    by_answer : {A : Type 0} (o : Option A) (t : Token) (ts : List Token) (x : A) (us : List Token) → stands_for (t ∷ ts) ts o ≡ read x us → length us < length (t ∷ ts)
    by_answer None t ts x us h = cc
    by_answer (Some y) t ts x us h = let same : ts ≡ us = cc in subst (λ vs. length vs < length (t ∷ ts)) same (omega arith)

pub rest_shorter : {A : Type 0} (p : At A) (ts : List Token) → Seen p ts → (x : A) (us : List Token) → p ts ≡ read x us → length us ≤ length ts
rest_shorter p ts s x us h =
    let e : us ≡ rest_of s.result = ap rest_of (sym h ∙ s.is) in
    let parts : ts ≡ s.front ++ us = s.parts ∙ ap (λ vs. s.front ++ vs) (sym e) in
    let sum : length ts ≡ length s.front + length us = ap length parts ∙ length-append s.front us in
    omega arith

pub shortens_then : {A B : Type 0} (p : At A) (q : A → At B) → Shortens p → ((x : A) (ts : List Token) → Seen (q x) ts) → Shortens (reading.◌>>=◌ p q)
shortens_then p q sp lq ts y us h = by_result p q sp lq ts y us (p ts) refl h
  where
    by_result : {A B : Type 0} (p : At A) (q : A → At B) → Shortens p → ((x : A) (ts : List Token) → Seen (q x) ts)
        → (ts : List Token) (y : B) (us : List Token) (r : Reading A) → p ts ≡ r → then_read r q ≡ read y us → length us < length ts
    by_result p q sp lq ts y us (fails vs) e h = cc
    by_result p q sp lq ts y us (read x vs) e h =
        let a : length vs < length ts = sp ts x vs e in
        let b : length us ≤ length vs = rest_shorter (q x) vs (lq x vs) y us h in
        omega arith

-- One item and the items after it.
abbrev more : {A B : Type 0} (f : Token → Option B) (p : At A) (n : ℕ) → At (List A)
more f p n = reading.◌>>=◌ p (λ x. reading.◌>>=◌ (many_for f p n) (λ xs. give (x ∷ xs)))

many_none : {A B : Type 0} (f : Token → Option B) (p : At A) (n : ℕ) (ts : List Token) → begins f ts ≡ false → many_for f p (suc n) ts ≡ read [] ts
unfolding many_for
many_none f p n ts e = ap (λ b. either b (more f p n) (give []) ts) e

many_one : {A B : Type 0} (f : Token → Option B) (p : At A) (n : ℕ) (ts : List Token) → begins f ts ≡ true
    → many_for f p (suc n) ts ≡ then_read (p ts) (λ x us. then_read (many_for f p n us) (λ xs vs. read (x ∷ xs) vs))
unfolding many_for
many_one f p n ts e = ap (λ b. either b (more f p n) (give []) ts) e

-- The result for any bound that exceeds the number of tokens.
record RowSeen {A B : Type 0} (f : Token → Option B) (p : At A) (ts : List Token) : Type 0 where
  result : Reading (List A)
  is : (m : ℕ) → length ts < m → many_for f p m ts ≡ result
  front : List Token
  parts : ts ≡ front ++ rest_of result
  again : (m : ℕ) (us : List Token) → length (front ++ us) < m → first us ≡ first (rest_of result) → many_for f p m (front ++ us) ≡ with_rest result us

pred_above : (m k : ℕ) → k < m → (j : ℕ) × (m ≡ suc j)
pred_above zero k h = absurd (omega arith)
pred_above (suc j) k h = (j, refl)

none_seen : {A B : Type 0} (f : Token → Option B) (p : At A) (ts : List Token) → begins f ts ≡ false → RowSeen f p ts
none_seen f p ts e = record {
  result = read [] ts;
  is = λ m h. let j = pred_above m _ h in rw j.1 (many_none f p j.0 ts e);
  front = [];
  parts = refl;
  again = λ m us h same. let j = pred_above m _ h in rw j.1 (many_none f p j.0 us (begins-first f us ts same ∙ e));
}

abbrev cons_read : {A : Type 0} → A → Reading (List A) → Reading (List A)
cons_read x r = then_read r (λ xs vs. read (x ∷ xs) vs)

rest_of-cons : {A : Type 0} (x : A) (r : Reading (List A)) → rest_of (cons_read x r) ≡ rest_of r
rest_of-cons x (read xs us) = refl
rest_of-cons x (fails us) = refl

cons-with_rest : {A : Type 0} (x : A) (r : Reading (List A)) (us : List Token) → cons_read x (with_rest r us) ≡ with_rest (cons_read x r) us
cons-with_rest x (read xs vs) us = refl
cons-with_rest x (fails vs) us = refl

item_seen : {A B : Type 0} (f : Token → Option B) (p : At A) (ts : List Token) → Shortens p → begins f ts ≡ true → (r : Reading A) (front : List Token)
    → p ts ≡ r → ts ≡ front ++ rest_of r → ((us : List Token) → first us ≡ first (rest_of r) → p (front ++ us) ≡ with_rest r us)
    → ((vs : List Token) → length vs < length ts → RowSeen f p vs) → RowSeen f p ts
item_seen {A} f p ts sp e (fails vs) front is parts again ih = record {
  result = fails vs;
  is = λ m h. let j = pred_above m _ h in rw j.1 (many_one f p j.0 ts e ∙ ap (λ r. then_read r (λ x us. then_read (many_for f p j.0 us) (λ xs vs. read (x ∷ xs) vs))) is);
  front = front;
  parts = parts;
  again = λ m us h same.
      let j = pred_above m _ h in
      let b = begins-first f _ _ (first-append front us vs ts parts same) ∙ e in
      rw j.1 (many_one f p j.0 (front ++ us) b ∙ ap (λ r. then_read r (λ x us. then_read (many_for f p j.0 us) (λ xs vs. read (x ∷ xs) vs))) (again us same));
}
item_seen {A} f p ts sp e (read x vs) front is parts again ih =
    let shorter : length vs < length ts = sp ts x vs is in
    let s = ih vs shorter in
    record {
      result = cons_read x s.result;
      is = λ m h.
          let j = pred_above m _ h in
          let room : length vs < j.0 = (let k : length ts < suc j.0 = subst (λ n. length ts < n) j.1 h in omega arith) in
          rw j.1 (many_one f p j.0 ts e ∙ ap (λ r. then_read r (λ x us. then_read (many_for f p j.0 us) (λ xs vs. read (x ∷ xs) vs))) is ∙ ap (cons_read x) (s.is j.0 room));
      front = front ++ s.front;
      parts = parts ∙ ap (λ zs. front ++ zs) (s.parts ∙ ap (λ zs. s.front ++ zs) (sym (rest_of-cons x s.result))) ∙ sym (append_assoc front s.front (rest_of (cons_read x s.result)));
      again = λ m us h same.
          let j = pred_above m _ h in
          let assoc = append_assoc front s.front us in
          let same' = same ∙ ap first (rest_of-cons x s.result) in
          let there = again (s.front ++ us) (first-append s.front us (rest_of s.result) vs s.parts same') in
          let b = begins-first f _ _ (first-append front (s.front ++ us) vs ts parts (first-append s.front us (rest_of s.result) vs s.parts same')) ∙ e in
          let less = sp (front ++ (s.front ++ us)) x (s.front ++ us) there in
          let room : length (s.front ++ us) < j.0 = (
          let k : length ((front ++ s.front) ++ us) < suc j.0 = subst (λ n. length ((front ++ s.front) ++ us) < n) j.1 h in
          let l : length ((front ++ s.front) ++ us) ≡ length (front ++ (s.front ++ us)) = ap length assoc in
          omega arith) in
          rw j.1
          (ap (λ zs. many_for f p (suc j.0) zs) assoc
          ∙ many_one f p j.0 (front ++ (s.front ++ us)) b
          ∙ ap (λ r. then_read r (λ x us. then_read (many_for f p j.0 us) (λ xs vs. read (x ∷ xs) vs))) there
          ∙ ap (cons_read x) (s.again j.0 us room same')
          ∙ cons-with_rest x s.result us);
    }

begin_seen : {A B : Type 0} (f : Token → Option B) (p : At A) (ts : List Token) (b : Bool) → begins f ts ≡ b → Shortens p → ((ts : List Token) → Seen p ts)
    → ((vs : List Token) → length vs < length ts → RowSeen f p vs) → RowSeen f p ts
begin_seen f p ts false e sp lp ih = none_seen f p ts e
begin_seen f p ts true e sp lp ih = let s = lp ts in item_seen f p ts sp e s.result s.front s.is s.parts s.again ih

row_seen : {A B : Type 0} (f : Token → Option B) (p : At A) (n : ℕ) (ts : List Token) → length ts < n → Shortens p → ((ts : List Token) → Seen p ts) → RowSeen f p ts
row_seen f p zero ts h sp lp = absurd (omega arith)
row_seen f p (suc n) ts h sp lp = begin_seen f p ts (begins f ts) refl sp lp (λ vs less. row_seen f p n vs (omega arith) sp lp)

pub many_looks : {A B : Type 0} (f : Token → Option B) (p : At A) → Shortens p → ((ts : List Token) → Seen p ts) → (ts : List Token) → Seen (many f p) ts
unfolding many
many_looks f p sp lp ts =
    let s = row_seen f p (suc (length ts)) ts (omega arith) sp lp in
    record {
      result = s.result;
      is = s.is (suc (length ts)) (omega arith);
      front = s.front;
      parts = s.parts;
      again = λ us h. s.again (suc (length (s.front ++ us))) us (omega arith) h;
    }

pub many_stops : {A B : Type 0} (f : Token → Option B) (p : At A) (ts : List Token) → begins f ts ≡ false → many f p ts ≡ read [] ts
unfolding many
many_stops f p ts e = many_none f p (length ts) ts e

pub many_fails : {A B : Type 0} (f : Token → Option B) (p : At A) (ts us : List Token) → begins f ts ≡ true → p ts ≡ fails us → many f p ts ≡ fails us
unfolding many
many_fails f p ts us e h = many_one f p (length ts) ts e ∙ ap (λ r. then_read r (λ x us. then_read (many_for f p (length ts) us) (λ xs vs. read (x ∷ xs) vs))) h

cons-prepend : {A : Type 0} (x : A) (r : Reading (List A)) → cons_read x r ≡ prepend (x ∷ []) r
cons-prepend x (read xs us) = refl
cons-prepend x (fails us) = refl

-- A bound that exceeds the number of tokens can be raised without effect.
many_enough : {A B : Type 0} (f : Token → Option B) (p : At A) → Shortens p → (n m : ℕ) (ts : List Token) → length ts < n → length ts < m → many_for f p n ts ≡ many_for f p m ts
many_enough f p sp zero m ts h k = absurd (omega arith)
many_enough f p sp (suc n) zero ts h k = absurd (omega arith)
many_enough f p sp (suc n) (suc m) ts h k = by_begin f p sp n m ts h k (begins f ts) refl (λ us a b. many_enough f p sp n m us a b)
  where
    by_item : {A B : Type 0} (f : Token → Option B) (p : At A) → Shortens p → (n m : ℕ) (ts : List Token) → length ts < suc n → length ts < suc m
        → ((us : List Token) → length us < n → length us < m → many_for f p n us ≡ many_for f p m us)
        → (r : Reading A) → p ts ≡ r → then_read r (λ x us. cons_read x (many_for f p n us)) ≡ then_read r (λ x us. cons_read x (many_for f p m us))
    by_item f p sp n m ts h k ih (fails us) e = refl
    by_item f p sp n m ts h k ih (read x us) e = let less : length us < length ts = sp ts x us e in ap (cons_read x) (ih us (omega arith) (omega arith))

    by_begin : {A B : Type 0} (f : Token → Option B) (p : At A) → Shortens p → (n m : ℕ) (ts : List Token) → length ts < suc n → length ts < suc m → (b : Bool) → begins f ts ≡ b
        → ((us : List Token) → length us < n → length us < m → many_for f p n us ≡ many_for f p m us) → many_for f p (suc n) ts ≡ many_for f p (suc m) ts
    by_begin f p sp n m ts h k false e ih = many_none f p n ts e ∙ sym (many_none f p m ts e)
    by_begin f p sp n m ts h k true e ih = many_one f p n ts e ∙ by_item f p sp n m ts h k ih (p ts) refl ∙ sym (many_one f p m ts e)

pub many_goes : {A B : Type 0} (f : Token → Option B) (p : At A) (ts : List Token) (x : A) (us : List Token) → Shortens p
    → begins f ts ≡ true → p ts ≡ read x us → many f p ts ≡ prepend (x ∷ []) (many f p us)
unfolding many
many_goes f p ts x us sp e h =
    let less : length us < length ts = sp ts x us h in
    many_one f p (length ts) ts e
    ∙ ap (λ r. then_read r (λ x us. then_read (many_for f p (length ts) us) (λ xs vs. read (x ∷ xs) vs))) h
    ∙ ap (cons_read x) (many_enough f p sp (length ts) (suc (length us)) us less (omega arith))
    ∙ cons-prepend x (many_for f p (suc (length us)) us)

rest_sound : {A B : Type 0} (f : Token → Option B) (g : Grammar A) (ts us : List Token) (x : A) (r : Reading (List A)) (zs : List A) (vs : List Token)
    → begins f ts ≡ true → g ts x us → ((xs : List A) (ws : List Token) → r ≡ read xs ws → Many f g us xs ws) → cons_read x r ≡ read zs vs → Many f g ts zs vs
rest_sound f g ts us x (fails ws) zs vs e gx ih h = cc
rest_sound f g ts us x (read xs ws) zs vs e gx ih h =
    let list : (x ∷ xs) ≡ zs = cc in
    let rest : ws ≡ vs = cc in
    subst (λ l. Many f g ts l vs) list (subst (λ l. Many f g ts (x ∷ xs) l) rest (one_more ts us ws x xs e gx (ih xs ws refl)))

item_sound : {A B : Type 0} (f : Token → Option B) (g : Grammar A) (p : At A) → Decides g p → (n : ℕ)
    → ((ts : List Token) (xs : List A) (us : List Token) → many_for f p n ts ≡ read xs us → Many f g ts xs us)
    → (ts : List Token) (zs : List A) (vs : List Token) → begins f ts ≡ true → (r : Reading A) → p ts ≡ r
    → then_read r (λ x us. cons_read x (many_for f p n us)) ≡ read zs vs → Many f g ts zs vs
item_sound f g p d n ih ts zs vs e (fails us) is h = cc
item_sound f g p d n ih ts zs vs e (read x us) is h = rest_sound f g ts us x (many_for f p n us) zs vs e (d.sound ts x us is) (ih us) h

begin_sound : {A B : Type 0} (f : Token → Option B) (g : Grammar A) (p : At A) → Decides g p → (n : ℕ)
    → ((ts : List Token) (xs : List A) (us : List Token) → many_for f p n ts ≡ read xs us → Many f g ts xs us)
    → (ts : List Token) (zs : List A) (vs : List Token) (b : Bool) → begins f ts ≡ b → many_for f p (suc n) ts ≡ read zs vs → Many f g ts zs vs
begin_sound f g p d n ih ts zs vs false e h =
    let k : read [] ts ≡ read zs vs = sym (many_none f p n ts e) ∙ h in
    let list : [] ≡ zs = cc in
    let rest : ts ≡ vs = cc in
    subst (λ l. Many f g ts l vs) list (subst (λ l. Many f g ts [] l) rest (no_more ts e))
begin_sound f g p d n ih ts zs vs true e h = item_sound f g p d n ih ts zs vs e (p ts) refl (sym (many_one f p n ts e) ∙ h)

many_sound : {A B : Type 0} (f : Token → Option B) (g : Grammar A) (p : At A) → Decides g p → (n : ℕ)
    → (ts : List Token) (xs : List A) (us : List Token) → many_for f p n ts ≡ read xs us → Many f g ts xs us
unfolding many_for
many_sound f g p d zero ts xs us h = cc
many_sound f g p d (suc n) ts xs us h = begin_sound f g p d n (many_sound f g p d n) ts xs us (begins f ts) refl h

many_complete : {A B : Type 0} (f : Token → Option B) (g : Grammar A) (p : At A) → Decides g p → Shortens p → (ts : List Token) (xs : List A) (us : List Token)
    → Many f g ts xs us → many f p ts ≡ read xs us
many_complete f g p d sp ts xs us (no_more _ e) = many_stops f p ts e
many_complete f g p d sp ts xs us (one_more _ vs _ x ys e gx rest) =
    many_goes f p ts x vs sp e (d.complete ts x vs gx) ∙ ap (prepend (x ∷ [])) (many_complete f g p d sp vs ys us rest)

pub many_decides : {A B : Type 0} {g : Grammar A} {p : At A} (f : Token → Option B) → Shortens p → Decides g p → Decides (grammar.many f g) (many f p)
unfolding many
many_decides {A} {B} {g} {p} f sp d = record {
  looks = many_looks f p sp d.looks;
  sound = λ ts xs us h. many_sound f g p d (suc (length ts)) ts xs us h;
  complete = many_complete f g p d sp;
}

pub separated_from_decides : {A : Type 0} {g : Grammar A} {p : At A} (x : A) → Decides g p → Decides (grammar.separated_from x g) (reading.separated_from x p)
separated_from_decides {A} {g} {p} x d =
    many_decides (a_symbol Comma) (shortens_then (token (a_symbol Comma)) (λ _. p) (shortens_token (a_symbol Comma)) (λ _. d.looks)) (token_decides (a_symbol Comma) >>= λ _. d)
    >>= λ xs. give_decides (x ∷ xs)

pub separated_decides : {A : Type 0} {g : Grammar A} {p : At A} → Decides g p → Decides (grammar.separated g) (reading.separated p)
separated_decides d = d >>= λ x. separated_from_decides x d

pub list_decides : {A : Type 0} {g : Grammar A} {p : At A} → Decides g p → Decides (grammar.list_in_parentheses g) (reading.list_in_parentheses p)
list_decides d = choice_decides (a_symbol Open)
    (token_decides (a_symbol Open) >>= λ _. separated_decides d >>= λ xs. token_decides (a_symbol Close) >>= λ _. give_decides xs)
    (give_decides [])
