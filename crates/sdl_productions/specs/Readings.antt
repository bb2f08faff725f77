-- Readings with one token of lookahead: what a list of tokens reads as, and where a reading fails.
use Rattle.std.specs.Prelude.{◌≡◌, ℕ, Bool, true, false, List, [], ◌∷◌, ◌++◌, Option, Some, None}
use Rattle.std.specs.Prelude.{length, suc, zero, ◌<◌, ◌≤◌}
use Rattle.sdl_lex.specs.declared.lexemes.Token.{Token}
use Rattle.sdl_lex.specs.declared.lexemes.Symbol.TheVariants.{Open, Close, Comma}
use Rattle.sdl_productions.specs.Tokens.{begins, a_symbol}

-- a value and the remaining tokens; or a failure, with the tokens from the first unexpected one on
pub data Reading (A : Type 0) : Type 0 where
  read : A → List Token → Reading A
  fails : List Token → Reading A

abbrev pub At : Type 0 → Type 0
At A = List Token → Reading A

abbrev pub then_read : {A B : Type 0} → Reading A → (A → List Token → Reading B) → Reading B
then_read (read x us) k = k x us
then_read (fails us) k = fails us

infixl 10 ◌>>=◌
abbrev pub ◌>>=◌ : {A B : Type 0} → At A → (A → At B) → At B
p >>= q = λ ts. then_read (p ts) q

abbrev pub give : {A : Type 0} → A → At A
give x = λ ts. read x ts

abbrev pub stands_for : {A : Type 0} → List Token → List Token → Option A → Reading A
stands_for all rest (Some x) = read x rest
stands_for all rest None = fails all

abbrev pub token : {A : Type 0} → (Token → Option A) → At A
token f [] = fails []
token f (t ∷ ts) = stands_for (t ∷ ts) ts (f t)

abbrev pub either : {A : Type 0} → Bool → At A → At A → At A
either true p q = p
either false p q = q

abbrev pub choice : {A B : Type 0} → (Token → Option B) → At A → At A → At A
choice f p q = λ ts. either (begins f ts) p q ts

abbrev pub optional : {A B : Type 0} → (Token → Option B) → At A → At (Option A)
optional f p = choice f (p >>= λ x. give (Some x)) (give None)

-- repeated items, at most n
unfoldable pub many_for : {A B : Type 0} → (Token → Option B) → At A → ℕ → At (List A)
many_for f p zero = λ ts. fails ts
many_for f p (suc n) =
    λ ts. either (begins f ts) (p >>= λ x. many_for f p n >>= λ xs. give (x ∷ xs)) (give []) ts

-- repeated items, no more than there are tokens
unfoldable pub many : {A B : Type 0} → (Token → Option B) → At A → At (List A)
many f p = λ ts. many_for f p (suc (length ts)) ts

-- , p
abbrev pub behind_comma : {A : Type 0} → At A → At A
behind_comma p = token (a_symbol Comma) >>= λ _. p

-- {, p} after a first item
abbrev pub separated_from : {A : Type 0} → A → At A → At (List A)
separated_from x p = many (a_symbol Comma) (behind_comma p) >>= λ xs. give (x ∷ xs)

abbrev pub separated : {A : Type 0} → At A → At (List A)
separated p = p >>= λ x. separated_from x p

abbrev pub list_in_parentheses : {A : Type 0} → At A → At (List A)
list_in_parentheses p = choice (a_symbol Open)
    (token (a_symbol Open) >>= λ _. separated p >>= λ xs. token (a_symbol Close) >>= λ _. give xs)
    (give [])

-- prepends items to those that are read
abbrev pub prepend : {A : Type 0} → List A → Reading (List A) → Reading (List A)
prepend xs (read ys us) = read (xs ++ ys) us
prepend xs (fails us) = fails us

-- a successful reading consumes at least one token
abbrev pub Shortens : {A : Type 0} → At A → Type 0
Shortens {A} p =
    (ts : List Token) (x : A) (us : List Token) → p ts ≡ read x us → length us < length ts

-- a successful reading leaves no more tokens than it was given
abbrev pub NeverLonger : {A : Type 0} → At A → Type 0
NeverLonger {A} p =
    (ts : List Token) (x : A) (us : List Token) → p ts ≡ read x us → length us ≤ length ts
