-- Expressions (Z.100, expressions): which trees the tokens read as.
use Rattle.std.specs.Prelude.{◌≡◌, ℕ, Bool, true, false, List, [], ◌∷◌, Option, Some, None, is_some}
use Rattle.std.specs.Prelude.{nat_le, if◌then◌else◌}
use Rattle.sdl_lex.specs.Limits.{GREATEST_NUMBER}
use Rattle.sdl_lex.specs.declared.lexemes.Token.{Token}
use Rattle.sdl_lex.specs.declared.lexemes.Lexeme.{Lexeme}
use Rattle.sdl_lex.specs.declared.lexemes.Lexeme.TheVariants as lexemes
use Rattle.sdl_lex.specs.declared.lexemes.Symbol.{Symbol}
use Rattle.sdl_lex.specs.declared.lexemes.Symbol.TheVariants as symbols
use Rattle.sdl_lex.specs.declared.lexemes.Word.{Word}
use Rattle.sdl_lex.specs.declared.lexemes.Word.TheVariants as words
use Rattle.sdl_ast.specs.declared.expression.UnaryOperator.{UnaryOperator}
use Rattle.sdl_ast.specs.declared.expression.UnaryOperator.TheVariants.{Negate, Not}
use Rattle.sdl_ast.specs.declared.expression.BinaryOperator.{BinaryOperator}
use Rattle.sdl_ast.specs.declared.expression.BinaryOperator.TheVariants.{Or, Xor, And, Equal}
use Rattle.sdl_ast.specs.declared.expression.BinaryOperator.TheVariants.{NotEqual, Less, LessEqual}
use Rattle.sdl_ast.specs.declared.expression.BinaryOperator.TheVariants.{Greater, GreaterEqual, Add}
use Rattle.sdl_ast.specs.declared.expression.BinaryOperator.TheVariants.{Subtract, Multiply, Divide}
use Rattle.sdl_ast.specs.declared.expression.BinaryOperator.TheVariants.{Modulo, Remainder}
use Rattle.sdl_productions.specs.declared.level.Level.{Level}
use Rattle.sdl_productions.specs.declared.level.Level.TheVariants.{Disjunctions, Conjunctions}
use Rattle.sdl_productions.specs.declared.level.Level.TheVariants.{Relations, Sums, Products}
use Rattle.sdl_ast.specs.Plain.{Tree, number, truth, variable, unary, binary}
use Rattle.sdl_productions.specs.Grammar.{Grammar}
use Rattle.sdl_ast.specs.Places.{place_of, placed}

-- The role of a token in an expression, for some roles with its place.
pub data Sign : Type 0 where
  -- an operand of one token
  leaf : Tree → Sign
  -- an operator that is only binary
  joins : Level → BinaryOperator → Sign
  -- `-`, which is binary or unary
  minus : ℕ → Sign
  -- NOT, which is unary
  denies : ℕ → Sign
  opens : ℕ → Sign
  closes : Sign
  other : Sign

abbrev pub symbol_sign : ℕ → Symbol → Sign
symbol_sign at symbols.Equal = joins Relations Equal
symbol_sign at symbols.NotEqual = joins Relations NotEqual
symbol_sign at symbols.Less = joins Relations Less
symbol_sign at symbols.LessEqual = joins Relations LessEqual
symbol_sign at symbols.Greater = joins Relations Greater
symbol_sign at symbols.GreaterEqual = joins Relations GreaterEqual
symbol_sign at symbols.Plus = joins Sums Add
symbol_sign at symbols.Minus = minus at
symbol_sign at symbols.Star = joins Products Multiply
symbol_sign at symbols.Slash = joins Products Divide
symbol_sign at symbols.Open = opens at
symbol_sign at symbols.Close = closes
symbol_sign at _ = other

abbrev pub word_sign : ℕ → Word → Sign
word_sign at words.Or = joins Disjunctions Or
word_sign at words.Xor = joins Disjunctions Xor
word_sign at words.And = joins Conjunctions And
word_sign at words.Mod = joins Products Modulo
word_sign at words.Rem = joins Products Remainder
word_sign at words.Not = denies at
word_sign at words.True = leaf (truth at true)
word_sign at words.False = leaf (truth at false)
word_sign at _ = other

abbrev pub lexeme_sign : ℕ → Lexeme → Sign
lexeme_sign at (lexemes.Name n) = leaf (variable at (record { name = n; at = at }))
lexeme_sign at (lexemes.Number k) = if nat_le k GREATEST_NUMBER then leaf (number at k) else other
lexeme_sign at (lexemes.Word w) = word_sign at w
lexeme_sign at (lexemes.Symbol s) = symbol_sign at s
lexeme_sign at lexemes.Quoted = other

unfoldable pub sign : Token → Sign
sign t = lexeme_sign t.start t.lexeme

-- the binary operator that a token can be, with its precedence level
abbrev pub between : Sign → Option (Level × BinaryOperator)
between (joins level o) = Some (level, o)
between (minus at) = Some (Sums, Subtract)
between (leaf x) = None
between (denies at) = None
between (opens at) = None
between closes = None
between other = None

-- the unary operator that a token can be, with its place
abbrev pub in_front : Sign → Option (ℕ × UnaryOperator)
in_front (minus at) = Some (at, Negate)
in_front (denies at) = Some (at, Not)
in_front (joins level o) = None
in_front (leaf x) = None
in_front (opens at) = None
in_front closes = None
in_front other = None

-- disjunction = conjunction { (OR | XOR) conjunction }, conjunction = relation { AND relation },
-- relation = sum [ (= | /= | < | <= | > | >=) sum ], sum = product { (+ | -) product },
-- product = factor { (* | / | MOD | REM) factor }, factor = [ - | NOT ] primary,
-- primary = number | TRUE | FALSE | name | ( disjunction ).
-- Operators of one level group to the left. A relation can't be an operand of another relation.
mutual
  pub data Disjunction : List Token → Tree → List Token → Type 0 where
    one_conjunction : (ts us : List Token) (x : Tree) → Conjunction ts x us → Disjunction ts x us
    disjoined : (ts us vs : List Token) (x y : Tree) (t : Token) (o : BinaryOperator)
        → Disjunction ts x (t ∷ us) → between (sign t) ≡ Some (Disjunctions, o)
        → Conjunction us y vs
        → Disjunction ts (binary (place_of x) o x y) vs

  pub data Conjunction : List Token → Tree → List Token → Type 0 where
    one_relation : (ts us : List Token) (x : Tree) → Relation ts x us → Conjunction ts x us
    conjoined : (ts us vs : List Token) (x y : Tree) (t : Token) (o : BinaryOperator)
        → Conjunction ts x (t ∷ us) → between (sign t) ≡ Some (Conjunctions, o) → Relation us y vs
        → Conjunction ts (binary (place_of x) o x y) vs

  pub data Relation : List Token → Tree → List Token → Type 0 where
    one_sum : (ts us : List Token) (x : Tree) → Sum ts x us → Relation ts x us
    related : (ts us vs : List Token) (x y : Tree) (t : Token) (o : BinaryOperator)
        → Sum ts x (t ∷ us) → between (sign t) ≡ Some (Relations, o) → Sum us y vs
        → Relation ts (binary (place_of x) o x y) vs

  pub data Sum : List Token → Tree → List Token → Type 0 where
    one_product : (ts us : List Token) (x : Tree) → Product ts x us → Sum ts x us
    summed : (ts us vs : List Token) (x y : Tree) (t : Token) (o : BinaryOperator)
        → Sum ts x (t ∷ us) → between (sign t) ≡ Some (Sums, o) → Product us y vs
        → Sum ts (binary (place_of x) o x y) vs

  pub data Product : List Token → Tree → List Token → Type 0 where
    one_factor : (ts us : List Token) (x : Tree) → Factor ts x us → Product ts x us
    multiplied : (ts us vs : List Token) (x y : Tree) (t : Token) (o : BinaryOperator)
        → Product ts x (t ∷ us) → between (sign t) ≡ Some (Products, o) → Factor us y vs
        → Product ts (binary (place_of x) o x y) vs

  pub data Factor : List Token → Tree → List Token → Type 0 where
    bare : (ts us : List Token) (x : Tree) → Primary ts x us → Factor ts x us
    led : (us vs : List Token) (x : Tree) (t : Token) (at : ℕ) (o : UnaryOperator)
        → in_front (sign t) ≡ Some (at, o) → Primary us x vs
        → Factor (t ∷ us) (unary at o x) vs

  pub data Primary : List Token → Tree → List Token → Type 0 where
    operand : (us : List Token) (x : Tree) (t : Token) → sign t ≡ leaf x → Primary (t ∷ us) x us
    in_parentheses : (us vs : List Token) (x : Tree) (t u : Token) (at : ℕ)
        → sign t ≡ opens at → Disjunction us x (u ∷ vs) → sign u ≡ closes
        → Primary (t ∷ us) (placed at x) vs

-- the next token is a binary operator, which would extend the expression
abbrev pub goes_on : List Token → Bool
goes_on [] = false
goes_on (t ∷ ts) = is_some (between (sign t))

-- a whole expression, after which no binary operator follows
pub record Expressed (tokens : List Token) (x : Tree) (rest : List Token) : Type 0 where
  pub reads : Disjunction tokens x rest
  pub ends : goes_on rest ≡ false

abbrev pub expression_syntax : Grammar Tree
expression_syntax = λ tokens x rest. Expressed tokens x rest
