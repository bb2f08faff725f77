-- The place where a refusal is found that names none itself.
use Rattle.std.specs.Prelude.{◌≡◌, ℕ, List, Contains}
use Rattle.sdl_lex.specs.Spelling.{folded}
use Rattle.sdl_lex.specs.declared.lexemes.Lexeme.{Lexeme}
use Rattle.sdl_lex.specs.declared.lexemes.Lexeme.TheVariants.{Name, Number, Word, Symbol, Quoted}
use Rattle.sdl_lex.specs.declared.lexemes.Token.{Token}
use Rattle.sdl_sound.specs.declared.fault.RuleFault.{RuleFault}
use Rattle.sdl_sound.specs.declared.fault.RuleFault.TheVariants as rules
use Rattle.turn_verify.specs.declared.loading.LoadFault.{LoadFault}
use Rattle.turn_verify.specs.declared.loading.LoadFault.TheVariants as loading

-- A lexeme is this name, without regard to case.
abbrev pub IsNamed : List ℕ → Lexeme → Type 0
IsNamed x (Name n) = folded n ≡ folded x
IsNamed x (Number n) = ⊥
IsNamed x (Word w) = ⊥
IsNamed x (Symbol s) = ⊥
IsNamed x Quoted = ⊥

-- a token begins at this place
pub record IsTokenAt (tokens : List Token) (at : ℕ) : Type 0 where
  pub token : Token
  pub there : Contains tokens token
  pub begins : token.start ≡ at

-- A token begins at this place and is this name.
pub record IsNameAt (tokens : List Token) (x : List ℕ) (at : ℕ) : Type 0 where
  pub token : Token
  pub there : Contains tokens token
  pub begins : token.start ≡ at
  pub named : IsNamed x token.lexeme

-- At the place that exceeds a limit, or where a transition runs off its end, a token begins. At the
-- place that reads a variable unset the token is its name.
abbrev pub FitsRule : List Token → RuleFault → ℕ → Type 0
FitsRule tokens (rules.DoubleName place) at = Unit {0}
FitsRule tokens (rules.UnknownName place) at = Unit {0}
FitsRule tokens (rules.WrongSort place) at = Unit {0}
FitsRule tokens (rules.NoState place) at = IsTokenAt tokens at
FitsRule tokens (rules.NoReceiver place) at = Unit {0}
FitsRule tokens (rules.TwoReceivers place) at = Unit {0}
FitsRule tokens (rules.JoinCycle place) at = Unit {0}
FitsRule tokens (rules.NoAnswer place) at = Unit {0}
FitsRule tokens (rules.BadDivisor place) at = Unit {0}
FitsRule tokens (rules.Limit which) at = IsTokenAt tokens at
FitsRule tokens (rules.Unset x path) at = IsNameAt tokens x at
FitsRule tokens rules.NoMemory at = Unit {0}

abbrev pub Fits : List Token → LoadFault → ℕ → Type 0
Fits tokens (loading.Lex fault line) at = Unit {0}
Fits tokens (loading.Parse fault line) at = Unit {0}
Fits tokens (loading.Rule fault line) at = FitsRule tokens fault at
Fits tokens loading.NoMemory at = Unit {0}
