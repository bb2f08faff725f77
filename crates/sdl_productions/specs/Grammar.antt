-- Grammars as relations, and how they are combined.
use Rattle.std.specs.Prelude.{◌≡◌, true, false, List, [], ◌∷◌, Option, Some, None, MatchBool}
use Rattle.sdl_lex.specs.declared.lexemes.Token.{Token}
use Rattle.sdl_lex.specs.declared.lexemes.Symbol.TheVariants.{Open, Close, Comma}
use Rattle.sdl_productions.specs.Tokens.{begins, a_symbol}

-- A grammar of A relates a list of tokens, an A and a second list. The tokens read as this A, and
-- the second list is the tokens that remain.
abbrev pub Grammar : Type 0 → Type 1
Grammar A = List Token → A → List Token → Type 0

-- consumes no token and reads as this value
pub record Gives {A : Type 0} (value : A) (tokens : List Token) (x : A) (rest : List Token) :
    Type 0 where
  pub same : x ≡ value
  pub none : rest ≡ tokens

-- consumes one token that stands for a value
pub record Takes {A : Type 0} (f : Token
    → Option A) (tokens : List Token) (x : A) (rest : List Token) : Type 0 where
  pub one : Token
  pub first : tokens ≡ one ∷ rest
  pub stands : f one ≡ Some x

-- one grammar, followed by a second one, which may depend on the value read
pub record Then {A B : Type 0} (p : Grammar A) (q : A
    → Grammar B) (tokens : List Token) (y : B) (rest : List Token) : Type 0 where
  pub value : A
  pub between : List Token
  pub before : p tokens value between
  pub after : q value between y rest

-- repeated items: there is one more exactly if the next token begins an item
pub data Many {A B : Type 0} (f : Token → Option B) (p : Grammar A) :
    List Token → List A → List Token → Type 0 where
  no_more : (ts : List Token) → begins f ts ≡ false → Many f p ts [] ts
  one_more : (ts us vs : List Token) (x : A) (xs : List A) → begins f ts ≡ true → p ts x us
      → Many f p us xs vs → Many f p ts (x ∷ xs) vs

abbrev pub give : {A : Type 0} → A → Grammar A
give value = λ tokens x rest. Gives value tokens x rest

abbrev pub token : {A : Type 0} → (Token → Option A) → Grammar A
token f = λ tokens x rest. Takes f tokens x rest

infixl 10 ◌>>=◌
abbrev pub ◌>>=◌ : {A B : Type 0} → Grammar A → (A → Grammar B) → Grammar B
p >>= q = λ tokens y rest. Then p q tokens y rest

abbrev pub many : {A B : Type 0} → (Token → Option B) → Grammar A → Grammar (List A)
many f p = λ tokens xs rest. Many f p tokens xs rest

-- the first grammar if the next token begins it, otherwise the second
abbrev pub choice : {A B : Type 0} → (Token → Option B) → Grammar A → Grammar A → Grammar A
choice f p q = λ tokens x rest. MatchBool (begins f tokens) (p tokens x rest) (q tokens x rest)

-- [ p ]
abbrev pub optional : {A B : Type 0} → (Token → Option B) → Grammar A → Grammar (Option A)
optional f p = choice f (p >>= λ x. give (Some x)) (give None)

-- { , p } after a first item
abbrev pub separated_from : {A : Type 0} → A → Grammar A → Grammar (List A)
separated_from x p =
    many (a_symbol Comma) (token (a_symbol Comma) >>= λ _. p) >>= λ xs. give (x ∷ xs)

-- p { , p }
abbrev pub separated : {A : Type 0} → Grammar A → Grammar (List A)
separated p = p >>= λ x. separated_from x p

-- ( p {, p} ), or nothing
abbrev pub list_in_parentheses : {A : Type 0} → Grammar A → Grammar (List A)
list_in_parentheses p = choice (a_symbol Open)
    (token (a_symbol Open) >>= λ _. separated p >>= λ xs. token (a_symbol Close) >>= λ _. give xs)
    (give [])
