-- The output of `check --warn` for an accepted text.
use Rattle.std.specs.Prelude.{◌≡◌, ◌⊎◌, ◌+◌, ◌<◌, ◌≤◌, ℕ, Bool, List, [], ◌++◌, Ok, length, min}
use Rattle.std.specs.Prelude.{nat_lt, string_bytes}
use Rattle.std.specs.List.{AllZip, flat_map}
use Rattle.sdl_lex.specs.Lexed.{Answers}
use Rattle.sdl_lex.specs.declared.lexemes.Token.{Token}
use Rattle.sdl_tree.specs.Syntax.{Reads}
use Rattle.sdl_tables.specs.Plain.{PlainBlock}
use Rattle.script_point.specs.Pointed.{IsPointed, IsHead, IsBegin, IsEnd}
use Rattle.script_point.specs.Pointing.{token_word}
use Rattle.script_point.specs.declared.notes.Notes.{Notes}
use Rattle.turn_verify.specs.Meanings.{meaning_of}
use Rattle.sdl_warnings.specs.Warned.{AreWarnings}
use Rattle.sdl_warnings.specs.Printed.{kind_name, kind_text}
use Rattle.sdl_warnings.specs.declared.warning.Warning.{Warning}

-- the most octets of a line that is printed with a warning (a choice)
abbrev pub MOST_SHOWN : ℕ
MOST_SHOWN = 1000

-- the line in which a place lies is too long to be printed
pub record IsLong (text : List ℕ) (place : ℕ) : Type 0 where
  pub begin : ℕ
  pub end : ℕ
  pub from : IsBegin text place begin
  pub to : IsEnd text place end
  pub long : begin + MOST_SHOWN < end

-- it isn't
pub record IsShort (text : List ℕ) (place : ℕ) : Type 0 where
  pub begin : ℕ
  pub end : ℕ
  pub from : IsBegin text place begin
  pub to : IsEnd text place end
  pub short : end ≤ begin + MOST_SHOWN

-- the lines point at the word of a warning, with its sentence and no other notes
pub record PointsWhole (text : List ℕ) (tokens : List Token) (w : Warning) (lines : List ℕ) :
    Type 0 where
  pub notes : Notes
  pub said : string_bytes notes.said ≡ kind_text w.kind
  pub under : string_bytes notes.under ≡ []
  pub hint : string_bytes notes.hint ≡ []
  pub points : IsPointed text (token_word tokens w.at) (kind_name w.kind) notes lines

-- where a warning is in the text; past the end of the text it is at that end
abbrev pub warned_at : List ℕ → Warning → ℕ
warned_at text w = min w.at (length text)

-- The lines of a warning: all lines that point at its word, or only its place and its sentence if
-- the word's line is too long.
abbrev pub IsWarning : List ℕ → List Token → Warning → List ℕ → Type 0
IsWarning text tokens w lines =
    (IsShort text (warned_at text w) × PointsWhole text tokens w lines)
    ⊎ (IsLong text (warned_at text w)
    × IsHead text (warned_at text w) (kind_name w.kind) (kind_text w.kind) lines)

-- the output grows by the lines of each of these warnings, with a name before them
pub record AreTold (name text : List ℕ) (tokens : List Token) (found : List Warning)
    (old new : List ℕ) : Type 0 where
  pub each : List (List ℕ)
  pub point : AllZip (IsWarning text tokens) found each
  pub all : new ≡ old ++ flat_map (λ lines. name ++ lines) each

-- the tokens read as a block that means this one: with values in place of its synonyms
pub record IsMeant (tokens : List Token) (b : PlainBlock) : Type 0 where
  pub written : PlainBlock
  pub reads : Reads tokens written
  pub means : b ≡ meaning_of written

-- the output grows by the lines of the warnings of the block that a text means; whether there is
-- one
pub record WarnsOf (name text old new : List ℕ) (some : Bool) : Type 0 where
  pub tokens : List Token
  pub lexed : Answers text (Ok tokens)
  pub block : PlainBlock
  pub meant : IsMeant tokens block
  pub found : List Warning
  pub are : AreWarnings meant.written block found
  pub told : AreTold name text tokens found old new
  pub is_some : some ≡ nat_lt 0 (length found)
