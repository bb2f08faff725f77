-- A sequence of readings leaves no more tokens than it was given, if none of them does.
use Rattle.std.specs.Prelude.{◌≡◌, ℕ, suc, zero, ◌<◌, ◌≤◌, Bool, true, false, List, [], ◌∷◌, Option, Some, None, length, refl}
use Rattle.std.proofs.Common.{sym, ap, subst}
use Rattle.std.proofs.Math.Nat.{le_refl, le_trans, le_of_lt, lt_of_le_of_lt, lt-suc_self}
use Rattle.sdl_lex.specs.declared.lexemes.Token.{Token}
use Rattle.sdl_lex.specs.declared.lexemes.Symbol.TheVariants.{Comma, Open, Close}
use Rattle.sdl_productions.specs.Tokens.{begins, a_symbol}
use Rattle.sdl_productions.specs.Readings.{Reading, read, fails, At, then_read, stands_for, either, many_for, many, choice, optional, give, token, separated_from, separated, list_in_parentheses, Shortens, NeverLonger}
use Rattle.sdl_productions.specs.Readings as reading

-- A failed reading returns no value. The tokens that a reading leaves.
pub IsRead : {A : Type 0} → Reading A → Type 0
IsRead (read x us) = Unit {0}
IsRead (fails us) = ⊥

pub left_by : {A : Type 0} → Reading A → List Token
left_by (read x us) = us
left_by (fails us) = us

pub not_read : {A : Type 0} (C : Type 0) (us vs : List Token) (x : A) → fails us ≡ read x vs → C
unfolding IsRead
not_read {A} C us vs x e = absurd (subst IsRead (sym e) tt)

pub same_rest : {A : Type 0} (x y : A) (us vs : List Token) → read x us ≡ read y vs → us ≡ vs
unfolding left_by
same_rest x y us vs e = ap left_by e

pub less_never_longer : {A : Type 0} (p : At A) → Shortens p → NeverLonger p
less_never_longer p s ts x us h = le_of_lt (s ts x us h)

pub shortens_token : {A : Type 0} (f : Token → Option A) → Shortens (token f)
shortens_token f [] x us h = not_read (length us < 0) [] us x h
shortens_token {A} f (t ∷ ts) x us h = by_answer (f t) h
  where
    by_answer : (o : Option A) → stands_for (t ∷ ts) ts o ≡ read x us → length us < length (t ∷ ts)
    by_answer None h = not_read (length us < length (t ∷ ts)) (t ∷ ts) us x h
    by_answer (Some y) h = subst (λ vs. length vs < length (t ∷ ts)) (same_rest y x ts us h) (lt-suc_self (length ts))

pub keeps_give : {A : Type 0} (x : A) → NeverLonger (give x)
keeps_give x ts y us h = subst (λ vs. length vs ≤ length ts) (same_rest x y ts us h) (le_refl (length ts))

pub keeps_token : {A : Type 0} (f : Token → Option A) → NeverLonger (token f)
keeps_token f = less_never_longer (token f) (shortens_token f)

infixl 10 ◌>>=◌
pub ◌>>=◌ : {A B : Type 0} {p : At A} {q : A → At B} → NeverLonger p → ((x : A) → NeverLonger (q x)) → NeverLonger (reading.◌>>=◌ p q)
◌>>=◌ {A} {B} {p} {q} kp kq ts y us h = by_result (p ts) refl h
  where
    by_result : (r : Reading A) → p ts ≡ r → then_read r q ≡ read y us → length us ≤ length ts
    by_result (fails vs) e h = not_read (length us ≤ length ts) vs us y h
    by_result (read x vs) e h = le_trans (kq x vs y us h) (kp ts x vs e)

-- If the first part consumes a token, so does the sequence.
pub first_takes : {A B : Type 0} {p : At A} {q : A → At B} → Shortens p → ((x : A) → NeverLonger (q x)) → Shortens (reading.◌>>=◌ p q)
first_takes {A} {B} {p} {q} kp kq ts y us h = by_result (p ts) refl h
  where
    by_result : (r : Reading A) → p ts ≡ r → then_read r q ≡ read y us → length us < length ts
    by_result (fails vs) e h = not_read (length us < length ts) vs us y h
    by_result (read x vs) e h = lt_of_le_of_lt (kq x vs y us h) (kp ts x vs e)

pub keeps_either : {A : Type 0} {p q : At A} (b : Bool) → NeverLonger p → NeverLonger q → NeverLonger (either b p q)
keeps_either true kp kq ts x us h = kp ts x us h
keeps_either false kp kq ts x us h = kq ts x us h

pub keeps_choice : {A B : Type 0} {p q : At A} (f : Token → Option B) → NeverLonger p → NeverLonger q → NeverLonger (choice f p q)
keeps_choice {A} {B} {p} {q} f kp kq ts x us h = keeps_either {A = A} {p = p} {q = q} (begins f ts) kp kq ts x us h

pub takes_either : {A : Type 0} {p q : At A} (b : Bool) → Shortens p → Shortens q → Shortens (either b p q)
takes_either true kp kq ts x us h = kp ts x us h
takes_either false kp kq ts x us h = kq ts x us h

pub takes_choice : {A B : Type 0} {p q : At A} (f : Token → Option B) → Shortens p → Shortens q → Shortens (choice f p q)
takes_choice {A} {B} {p} {q} f kp kq ts x us h = takes_either {A = A} {p = p} {q = q} (begins f ts) kp kq ts x us h

pub keeps_optional : {A B : Type 0} {p : At A} (f : Token → Option B) → NeverLonger p → NeverLonger (optional f p)
keeps_optional f kp = keeps_choice f (kp >>= λ x. keeps_give (Some x)) (keeps_give None)

pub keeps_many_for : {A B : Type 0} {p : At A} (f : Token → Option B) → NeverLonger p → (n : ℕ) → NeverLonger (many_for f p n)
unfolding many_for
keeps_many_for f kp zero ts x us h = not_read (length us ≤ length ts) ts us x h
keeps_many_for {A} {B} {p} f kp (suc n) ts x us h =
    keeps_either {A = List A} (begins f ts) (kp >>= λ x. keeps_many_for f kp n >>= λ xs. keeps_give (x ∷ xs)) (keeps_give []) ts x us h

pub keeps_many : {A B : Type 0} {p : At A} (f : Token → Option B) → NeverLonger p → NeverLonger (many f p)
unfolding many
keeps_many f kp = λ ts x us h. keeps_many_for f kp (suc (length ts)) ts x us h

pub keeps_separated_from : {A : Type 0} {p : At A} (x : A) → NeverLonger p → NeverLonger (separated_from x p)
keeps_separated_from x kp = keeps_many (a_symbol Comma) (keeps_token (a_symbol Comma) >>= λ _. kp) >>= λ xs. keeps_give (x ∷ xs)

pub keeps_separated : {A : Type 0} {p : At A} → NeverLonger p → NeverLonger (separated p)
keeps_separated kp = kp >>= λ x. keeps_separated_from x kp

pub keeps_list : {A : Type 0} {p : At A} → NeverLonger p → NeverLonger (list_in_parentheses p)
keeps_list kp = keeps_choice (a_symbol Open)
    (keeps_token (a_symbol Open) >>= λ _. keeps_separated kp >>= λ xs. keeps_token (a_symbol Close) >>= λ _. keeps_give xs)
    (keeps_give [])
