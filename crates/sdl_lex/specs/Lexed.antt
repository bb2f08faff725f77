-- What the tokens of a text are, and which faults a text can have.
use Rattle.std.specs.Prelude.{Vec, ◌≡◌, ℕ, ◌+◌, ◌-◌, ◌*◌, ◌<◌, ◌≤◌, ◌==◌, ◌⊎◌, Bool, true, false}
use Rattle.std.specs.Prelude.{IsTrue, ◌||◌, if◌then◌else◌, List, [], ◌∷◌, ◌++◌, length, fold, map}
use Rattle.std.specs.Prelude.{slice_index, slice_range, EachIndex, Result, Ok, Err}
use Rattle.std.specs.Char.{is_ascii_alphabetic, is_ascii_digit}
use Rattle.std.specs.List.{list_any}
use Rattle.sdl_lex.specs.Limits.{LONGEST_NAME, GREATEST_NUMBER, LONGEST_TEXT}
use Rattle.sdl_lex.specs.declared.lexemes.Word.{Word}
use Rattle.sdl_lex.specs.declared.lexemes.Word.TheVariants.{Synonym}
use Rattle.sdl_lex.specs.declared.lexemes.Symbol.{Symbol}
use Rattle.sdl_lex.specs.declared.lexemes.Symbol.TheVariants.{Colon, Slash, Less, Greater}
use Rattle.sdl_lex.specs.declared.lexemes.Lexeme.{Lexeme}
use Rattle.sdl_lex.specs.declared.lexemes.Lexeme.TheVariants.{Name as a_name, Number as a_number}
use Rattle.sdl_lex.specs.declared.lexemes.Lexeme.TheVariants.{Word as a_word, Symbol as a_symbol}
use Rattle.sdl_lex.specs.declared.lexemes.Lexeme.TheVariants.{Quoted as a_quoted}
use Rattle.sdl_lex.specs.declared.lexemes.Token.{Token}
use Rattle.sdl_lex.specs.declared.lexemes.LexFault.{LexFault}
use Rattle.sdl_lex.specs.declared.lexemes.LexFault.TheVariants.{BadCharacter, OpenComment, TooLong}
use Rattle.sdl_lex.specs.declared.lexemes.LexFault.TheVariants.{NoMemory}
use Rattle.sdl_lex.specs.Spelling.{IsName, SameName, is_name_byte, is_spelled_as_name}
use Rattle.sdl_lex.specs.Texts.{word_text, symbol_text}

-- A text is the list of its bytes, and a place is an index into it. Past the end `slice_index` is
-- 0, which is not white space and continues no token.

-- space, tab, carriage return and line feed
abbrev pub is_white : ℕ → Bool
is_white b = (b == 32) || (b == 9) || (b == 13) || (b == 10)

-- `/*` is at a place
abbrev pub OpensComment : List ℕ → ℕ → Type 0
OpensComment text at = (slice_index text at ≡ 47) × (slice_index text (at + 1) ≡ 42)

-- `*/` is at a place
abbrev pub ClosesComment : List ℕ → ℕ → Type 0
ClosesComment text at = (slice_index text at ≡ 42) × (slice_index text (at + 1) ≡ 47)

-- A comment begins at the first place and ends before the second, with the first `*/` after `/*`.
pub record IsComment (text : List ℕ) (at next : ℕ) : Type 0 where
  pub opens : OpensComment text at
  pub last : ℕ
  pub after : at + 2 ≤ last
  pub closes : ClosesComment text last
  pub first : (k : ℕ) → at + 2 ≤ k → k < last → ClosesComment text k → ⊥
  pub ends : next ≡ last + 2

-- a comment without end begins at a place
pub record IsOpenComment (text : List ℕ) (at : ℕ) : Type 0 where
  pub opens : OpensComment text at
  pub endless : (k : ℕ) → at + 2 ≤ k → ClosesComment text k → ⊥

-- the bytes that represent a quoted text between its quotes: each quote in it is doubled
abbrev pub doubled : List ℕ → List ℕ
doubled [] = []
doubled (b ∷ bs) = if b == 39 then 39 ∷ 39 ∷ doubled bs else b ∷ doubled bs

-- a quoted text, including its outer quotes
abbrev pub IsQuoted : List ℕ → Type 0
IsQuoted bytes = (held : List ℕ) × (bytes ≡ 39 ∷ (doubled held ++ 39 ∷ []))

-- one or more digits
abbrev pub IsNumber : List ℕ → Type 0
IsNumber bytes =
    (0 < length bytes) × EachIndex bytes (λ k. is_ascii_digit (slice_index bytes k) ≡ true)

-- the number that digits stand for
abbrev pub decimal : List ℕ → ℕ
decimal digits = fold (λ n digit. 10 * n + (digit - 48)) 0 digits

-- The bytes spell a lexeme. A name is not a reserved word, in either case.
abbrev pub Spells : List ℕ → Lexeme → Type 0
Spells bytes (a_name n) =
    (n ≡ bytes) × IsName bytes × ((w : Word) → SameName bytes (word_text w) → ⊥)
Spells bytes (a_number n) = IsNumber bytes × (n ≡ decimal bytes) × (n ≤ GREATEST_NUMBER)
Spells bytes (a_word w) = SameName bytes (word_text w)
Spells bytes (a_symbol s) = bytes ≡ symbol_text s
Spells bytes a_quoted = IsQuoted bytes

-- The byte and the symbol before it make a longer symbol, or `/*`, which begins a comment.
abbrev pub continues_symbol : Symbol → ℕ → Bool
continues_symbol Colon b = b == 61
continues_symbol Slash b = (b == 61) || (b == 42)
continues_symbol Less b = b == 61
continues_symbol Greater b = b == 61
continues_symbol _ b = false

-- the lexeme is the word SYNONYM
abbrev pub is_synonym_lexeme : Lexeme → Bool
is_synonym_lexeme (a_word Synonym) = true
is_synonym_lexeme _ = false

-- the byte would make the token before it longer
abbrev pub continues : Lexeme → ℕ → Bool
continues (a_name _) b = is_name_byte b
continues (a_number _) b = is_ascii_digit b
continues (a_word _) b = is_name_byte b
continues (a_symbol s) b = continues_symbol s b
continues a_quoted b = b == 39

-- a token that isn't marked
abbrev pub bare : Lexeme → ℕ → ℕ → Token
bare lexeme start end =
    record { lexeme = lexeme; start = start; end = end; with_synonyms = false }

-- A token is in a text: its slice spells it, and it can't be longer.
pub record IsToken (text : List ℕ) (token : Token) : Type 0 where
  pub ordered : token.start ≤ token.end
  pub inside : token.end ≤ length text
  pub spelled : Spells (slice_range text token.start token.end) token.lexeme
  pub longest : continues token.lexeme (slice_index text token.end) ≡ false

-- A quoted text without end begins at a place: there is a quote, but no quoted text begins there.
pub record IsOpenQuoted (text : List ℕ) (at : ℕ) : Type 0 where
  pub opens : slice_index text at ≡ 39
  pub endless : (end : ℕ) → IsToken text (bare a_quoted at end) → ⊥

-- one white-space byte or one comment is between two places
pub data IsBlank (text : List ℕ) (at : ℕ) : ℕ → Type 0 where
  white : is_white (slice_index text at) ≡ true → IsBlank text at (at + 1)
  comment : {next : ℕ} → IsComment text at next → IsBlank text at next

-- Between two places the text consists of white space, comments and exactly these tokens, in this
-- order.
pub data Lexes (text : List ℕ) (to : ℕ) : ℕ → List Token → Type 0 where
  ended : Lexes text to to []
  skipped : {at : ℕ} {tokens : List Token} (next : ℕ) → IsBlank text at next
      → Lexes text to next tokens → Lexes text to at tokens
  taken : {at : ℕ} {tokens : List Token} (token : Token) → token.start ≡ at
      → token.with_synonyms ≡ false → IsToken text token → Lexes text to token.end tokens
      → Lexes text to at (token ∷ tokens)

-- the token is the word SYNONYM
abbrev pub is_synonym : Token → Bool
is_synonym t = is_synonym_lexeme t.lexeme

-- the token, marked with whether the word SYNONYM is in its text
abbrev pub marked : Bool → Token → Token
marked with_synonyms t =
    record { lexeme = t.lexeme; start = t.start; end = t.end; with_synonyms = with_synonyms }

-- all tokens of a text, marked
abbrev pub all_marked : List Token → List Token
all_marked tokens = map (marked (list_any is_synonym tokens)) tokens

-- the whole text has these tokens, which are marked
abbrev pub Lexed : List ℕ → List Token → Type 0
Lexed text tokens =
    (unmarked : List Token) × Lexes text (length text) 0 unmarked × (tokens ≡ all_marked unmarked)

-- a byte that begins no token, white space or comment
pub record IsBad (b : ℕ) : Type 0 where
  pub no_letter : is_ascii_alphabetic b ≡ false
  pub no_digit : is_ascii_digit b ≡ false
  pub no_white : is_white b ≡ false
  pub no_quote : (b == 39) ≡ false
  pub no_symbol : (s : Symbol) → symbol_text s ≡ b ∷ [] → ⊥

-- a name of more than 32 bytes begins at a place
abbrev pub IsLongName : List ℕ → ℕ → Type 0
IsLongName text at = (end : ℕ) × IsTrue (is_spelled_as_name (slice_range text at end))
    × (LONGEST_NAME < length (slice_range text at end))

-- a number above 2147483647 begins at a place
abbrev pub IsLargeNumber : List ℕ → ℕ → Type 0
IsLargeNumber text at =
    (end : ℕ) × IsNumber (slice_range text at end)
    × (GREATEST_NUMBER < decimal (slice_range text at end))

-- the text has this fault at the fault's place
abbrev pub IsFaultAt : List ℕ → LexFault → Type 0
IsFaultAt text (BadCharacter at) = (at < length text) × IsBad (slice_index text at)
IsFaultAt text (OpenComment at) = IsOpenComment text at ⊎ IsOpenQuoted text at
IsFaultAt text (TooLong at) = IsLongName text at ⊎ IsLargeNumber text at
IsFaultAt text NoMemory = ⊥

-- the place of a fault
abbrev pub place_of : LexFault → ℕ
place_of (BadCharacter at) = at
place_of (OpenComment at) = at
place_of (TooLong at) = at
place_of NoMemory = 0

-- For a text within the length limit: it has these tokens, or this is its first fault, and up to
-- the fault it consists of items.
abbrev pub Gives : List ℕ → Result (List Token) LexFault → Type 0
Gives text (Ok tokens) = Lexed text tokens
Gives text (Err fault) =
    IsFaultAt text fault × (tokens : List Token) × Lexes text (place_of fault) 0 tokens

-- The answer for any text, except running out of memory. A text over the length limit is faulty at
-- the first byte past the limit.
pub data Answers (text : List ℕ) : Result (List Token) LexFault → Type 0 where
  over_long : LONGEST_TEXT < length text → Answers text (Err (TooLong LONGEST_TEXT))
  in_room : {answer : Result (List Token) LexFault} → length text ≤ LONGEST_TEXT → Gives text answer
      → Answers text answer

-- The first fault of a text within the length limit. `NoMemory` states nothing.
abbrev pub IsFirstFault : List ℕ → LexFault → Type 0
IsFirstFault text NoMemory = Unit {0}
IsFirstFault text fault = Gives text (Err fault)

-- The fault is the answer for a text of any length. `NoMemory` states nothing.
abbrev pub IsAnswer : List ℕ → LexFault → Type 0
IsAnswer text NoMemory = Unit {0}
IsAnswer text fault = Answers text (Err fault)

-- the result of the call is the answer, or memory ran out
abbrev pub Agrees :
    {A : Type 0} → Result (Vec Token A) LexFault → Result (List Token) LexFault → Type 0
Agrees (Err NoMemory) answer = Unit {0}
Agrees (Err fault) answer = answer ≡ Err fault
Agrees (Ok v) answer = answer ≡ Ok v.items

-- every answer for the text equals the result of the call, or memory ran out
abbrev pub IsOnlyAnswer : {A : Type 0} → List ℕ → Result (Vec Token A) LexFault → Type 0
IsOnlyAnswer text result =
    (answer : Result (List Token) LexFault) → Answers text answer → Agrees result answer

-- a text has at most one list of tokens
abbrev pub OneReading : Type 0
OneReading = (text : List ℕ) (ts us : List Token) → Lexed text ts → Lexed text us → ts ≡ us

-- a text has at most one answer
abbrev pub OneAnswer : Type 0
OneAnswer =
    (text : List ℕ) (a b : Result (List Token) LexFault) → Answers text a → Answers text b → a ≡ b
