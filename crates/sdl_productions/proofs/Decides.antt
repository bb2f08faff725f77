-- A reading decides a grammar: it returns exactly what the grammar allows. It inspects at most one token after those
-- that it consumes.
use Rattle.std.proofs.Common.{◌≡◌, Bool, true, false, List, [], ◌∷◌, ◌++◌, Option, Some, None, refl, sym, ap, ◌∙◌, append_assoc, MatchBool}
use Rattle.sdl_lex.specs.declared.lexemes.Token.{Token}
use Rattle.sdl_productions.specs.Tokens.{begins}
use Rattle.sdl_productions.specs.Grammar as grammar
use Rattle.sdl_productions.specs.Grammar.{Grammar, Takes, Then}
use Rattle.sdl_productions.specs.Readings.{Reading, read, fails, At, then_read, stands_for, either, choice, give, token}
use Rattle.sdl_productions.specs.Readings as reading

abbrev pub first : List Token → Option Token
first [] = None
first (t ∷ ts) = Some t

abbrev pub rest_of : {A : Type 0} → Reading A → List Token
rest_of (read x us) = us
rest_of (fails us) = us

abbrev pub with_rest : {A : Type 0} → Reading A → List Token → Reading A
with_rest (read x vs) us = read x us
with_rest (fails vs) us = fails us

-- A reading gives the same result if the remaining tokens are replaced by others with the same first token.
pub record Seen {A : Type 0} (p : At A) (ts : List Token) : Type 0 where
  pub result : Reading A
  pub is : p ts ≡ result
  pub front : List Token
  pub parts : ts ≡ front ++ rest_of result
  pub again : (us : List Token) → first us ≡ first (rest_of result) → p (front ++ us) ≡ with_rest result us

pub record Decides {A : Type 0} (g : Grammar A) (p : At A) : Type 0 where
  pub looks : (ts : List Token) → Seen p ts
  pub sound : (ts : List Token) (x : A) (us : List Token) → p ts ≡ read x us → g ts x us
  pub complete : (ts : List Token) (x : A) (us : List Token) → g ts x us → p ts ≡ read x us

pub first-append : (f us rest vs : List Token) → vs ≡ f ++ rest → first us ≡ first rest → first (f ++ us) ≡ first vs
first-append [] us rest vs e h = h ∙ ap first (sym e)
first-append (t ∷ f) us rest vs e h = ap first (sym e)

pub begins-first : {A : Type 0} (f : Token → Option A) (us vs : List Token) → first us ≡ first vs → begins f us ≡ begins f vs
begins-first f [] [] h = refl
begins-first f [] (v ∷ vs) h = cc
begins-first f (u ∷ us) [] h = cc
begins-first f (u ∷ us) (v ∷ vs) h = let e : u ≡ v = cc in ap (λ t. begins f (t ∷ [])) e

seen_here : {A : Type 0} (p : At A) (ts : List Token) (r : Reading A) → p ts ≡ r → rest_of r ≡ ts
    → ((us : List Token) → first us ≡ first ts → p us ≡ with_rest r us) → Seen p ts
seen_here p ts r is e again = record { result = r; is = is; front = []; parts = sym e; again = λ us h. again us (h ∙ ap first e) }

pub give_decides : {A : Type 0} (x : A) → Decides (grammar.give x) (give x)
give_decides {A} x = record {
  looks = λ ts. seen_here (give x) ts (read x ts) refl refl (λ us h. refl);
  sound = λ ts y us h. record { same = cc; none = cc };
  complete = λ ts y us g. let a = g.same in let b = g.none in cc;
}

token_seen : {A : Type 0} (f : Token → Option A) (t : Token) (ts : List Token) (o : Option A) → f t ≡ o → Seen (token f) (t ∷ ts)
token_seen f t ts (Some x) e = record {
  result = read x ts;
  is = ap (stands_for (t ∷ ts) ts) e;
  front = t ∷ [];
  parts = refl;
  again = λ us h. ap (stands_for (t ∷ us) us) e;
}
token_seen f t ts None e =
    seen_here (token f) (t ∷ ts) (fails (t ∷ ts)) (ap (stands_for (t ∷ ts) ts) e) refl (again_none f t ts e)
  where
    again_none : {A : Type 0} (f : Token → Option A) (t : Token) (ts : List Token) → f t ≡ None → (us : List Token) → first us ≡ Some t → token f us ≡ fails us
    again_none f t ts e [] h = refl
    again_none f t ts e (u ∷ us) h = let same : u ≡ t = cc in ap (stands_for (u ∷ us) us) (ap f same ∙ e)

token_looks : {A : Type 0} (f : Token → Option A) (ts : List Token) → Seen (token f) ts
token_looks f [] = seen_here (token f) [] (fails []) refl refl (nothing f)
  where
    nothing : {A : Type 0} (f : Token → Option A) (us : List Token) → first us ≡ None → token f us ≡ fails us
    nothing f [] h = refl
    nothing f (u ∷ us) h = cc
token_looks f (t ∷ ts) = token_seen f t ts (f t) refl

token_sound : {A : Type 0} (f : Token → Option A) (ts : List Token) (x : A) (us : List Token) → token f ts ≡ read x us → Takes f ts x us
token_sound f [] x us h = cc
token_sound f (t ∷ ts) x us h = by_answer f t ts x us (f t) refl h
  where
    by_answer : {A : Type 0} (f : Token → Option A) (t : Token) (ts : List Token) (x : A) (us : List Token) (o : Option A) → f t ≡ o → stands_for (t ∷ ts) ts o ≡ read x us
        → Takes f (t ∷ ts) x us
    by_answer f t ts x us None e h = cc
    by_answer f t ts x us (Some y) e h = record {
      one = t;
      first = let same : ts ≡ us = cc in ap (λ vs. t ∷ vs) same;
      stands = let same : y ≡ x = cc in e ∙ ap Some same;
    }

pub token_decides : {A : Type 0} (f : Token → Option A) → Decides (grammar.token f) (token f)
token_decides f = record {
  looks = token_looks f;
  sound = token_sound f;
  complete = λ ts x us g. ap (token f) g.first ∙ ap (stands_for (g.one ∷ us) us) g.stands;
}

bind_seen : {A B : Type 0} (p : At A) (q : A → At B) (ts : List Token) (r : Reading A) (front : List Token) → p ts ≡ r → ts ≡ front ++ rest_of r
    → ((us : List Token) → first us ≡ first (rest_of r) → p (front ++ us) ≡ with_rest r us)
    → ((x : A) (us : List Token) → Seen (q x) us) → Seen (reading.◌>>=◌ p q) ts
bind_seen p q ts (fails vs) front is parts again next = record {
  result = fails vs;
  is = ap (λ r. then_read r q) is;
  front = front;
  parts = parts;
  again = λ us h. ap (λ r. then_read r q) (again us h);
}
bind_seen {A} {B} p q ts (read x vs) front is parts again next =
    let s = next x vs in
    record {
      result = s.result;
      is = ap (λ r. then_read r q) is ∙ s.is;
      front = front ++ s.front;
      parts = parts ∙ ap (λ zs. front ++ zs) s.parts ∙ sym (append_assoc front s.front (rest_of s.result));
      again = λ us h.
          ap (λ zs. then_read (p zs) q) (append_assoc front s.front us)
          ∙ ap (λ r. then_read r q) (again (s.front ++ us) (first-append s.front us (rest_of s.result) vs s.parts h))
          ∙ s.again us h;
    }

bind_sound : {A B : Type 0} (g : Grammar A) (h : A → Grammar B) (p : At A) (q : A → At B) → Decides g p → ((x : A) → Decides (h x) (q x))
    → (ts : List Token) (y : B) (us : List Token) (r : Reading A) → p ts ≡ r → then_read r q ≡ read y us → Then g h ts y us
bind_sound g h p q dp dq ts y us (fails vs) e f = cc
bind_sound g h p q dp dq ts y us (read x vs) e f = record {
  value = x;
  between = vs;
  before = dp.sound ts x vs e;
  after = (dq x).sound vs y us f;
}

infixl 10 ◌>>=◌
pub ◌>>=◌ : {A B : Type 0} {g : Grammar A} {h : A → Grammar B} {p : At A} {q : A → At B} → Decides g p → ((x : A) → Decides (h x) (q x))
    → Decides (grammar.◌>>=◌ g h) (reading.◌>>=◌ p q)
◌>>=◌ {A} {B} {g} {h} {p} {q} dp dq = record {
  looks = λ ts. let s = dp.looks ts in bind_seen p q ts s.result s.front s.is s.parts s.again (λ x. (dq x).looks);
  sound = λ ts y us e. bind_sound g h p q dp dq ts y us (p ts) refl e;
  complete = λ ts y us t. ap (λ r. then_read r q) (dp.complete ts t.value t.between t.before) ∙ (dq t.value).complete t.between y us t.after;
}

choice_seen : {A B : Type 0} (f : Token → Option B) (p q : At A) (ts : List Token) (b : Bool) → begins f ts ≡ b
    → Seen p ts → Seen q ts → Seen (choice f p q) ts
choice_seen f p q ts true e s t = record {
  result = s.result;
  is = ap (λ b. either b p q ts) e ∙ s.is;
  front = s.front;
  parts = s.parts;
  again = λ us h.
      ap (λ b. either b p q (s.front ++ us)) (begins-first f _ _ (first-append s.front us (rest_of s.result) ts s.parts h) ∙ e) ∙ s.again us h;
}
choice_seen f p q ts false e t s = record {
  result = s.result;
  is = ap (λ b. either b p q ts) e ∙ s.is;
  front = s.front;
  parts = s.parts;
  again = λ us h.
      ap (λ b. either b p q (s.front ++ us)) (begins-first f _ _ (first-append s.front us (rest_of s.result) ts s.parts h) ∙ e) ∙ s.again us h;
}

choice_sound : {A : Type 0} (g h : Grammar A) (p q : At A) → Decides g p → Decides h q → (ts : List Token) (x : A) (us : List Token) (b : Bool)
    → either b p q ts ≡ read x us → MatchBool b (g ts x us) (h ts x us)
choice_sound g h p q dp dq ts x us true e = dp.sound ts x us e
choice_sound g h p q dp dq ts x us false e = dq.sound ts x us e

choice_complete : {A : Type 0} (g h : Grammar A) (p q : At A) → Decides g p → Decides h q → (ts : List Token) (x : A) (us : List Token) (b : Bool)
    → MatchBool b (g ts x us) (h ts x us) → either b p q ts ≡ read x us
choice_complete g h p q dp dq ts x us true m = dp.complete ts x us m
choice_complete g h p q dp dq ts x us false m = dq.complete ts x us m

pub choice_decides : {A B : Type 0} {g h : Grammar A} {p q : At A} (f : Token → Option B) → Decides g p → Decides h q
    → Decides (grammar.choice f g h) (choice f p q)
choice_decides {A} {B} {g} {h} {p} {q} f dp dq = record {
  looks = λ ts. choice_seen f p q ts (begins f ts) refl (dp.looks ts) (dq.looks ts);
  sound = λ ts x us e. choice_sound g h p q dp dq ts x us (begins f ts) e;
  complete = λ ts x us m. choice_complete g h p q dp dq ts x us (begins f ts) m;
}

pub optional_decides : {A B : Type 0} {g : Grammar A} {p : At A} (f : Token → Option B) → Decides g p
    → Decides (grammar.optional f g) (reading.optional f p)
optional_decides f dp = choice_decides f (dp >>= λ x. give_decides (Some x)) (give_decides None)
