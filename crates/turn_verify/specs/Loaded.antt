-- The result of loading a text: the set of its block, or the first refusal of the layers.
use Rattle.std.specs.Prelude.{◌≡◌, ℕ, ◌+◌, ◌-◌, ◌==◌, ◌≤◌, List, length, take, count_by, min}
use Rattle.std.specs.Prelude.{Option, None, Some, option_map, slice_get, Result, Ok, Err}
use Rattle.std.specs.Option.{option_map_or}
use Rattle.sdl_lex.specs.Lexed.{Answers, place_of}
use Rattle.sdl_lex.specs.declared.lexemes.Token.{Token}
use Rattle.sdl_lex.specs.declared.lexemes.LexFault.{LexFault}
use Rattle.sdl_ast.specs.Plain.{PlainBlock}
use Rattle.sdl_tree.specs.Syntax.{Reads}
use Rattle.sdl_ast.specs.Heights as heights
use Rattle.sdl_tree.specs.Refusals as refusals
use Rattle.sdl_tree.specs.Settled.{Settled}
use Rattle.sdl_ast.specs.Limits.{GREATEST_HEIGHT}
use Rattle.sdl_tree.specs.declared.fault.ParseFault.{ParseFault}
use Rattle.sdl_tree.specs.declared.fault.ParseFault.TheVariants as parsing
use Rattle.sdl_sound.specs.Sound.{Sound}
use Rattle.sdl_compile.specs.Expansion.{expanded}
use Rattle.sdl_compile.specs.Texts.{WellDeclared, RefusesText}
use Rattle.sdl_sound.specs.declared.fault.RuleFault.{RuleFault}
use Rattle.sdl_sound.specs.declared.fault.RuleFault.TheVariants as rules
use Rattle.sdl_compile.specs.Blocks.{MatchesBlock}
use Rattle.sdl_compile.specs.Meaning.{RunsAsMeant}
use Rattle.turn_code.specs.declared.draft.Draft.{Draft}
use Rattle.turn_verify.specs.declared.loading.LoadFault.{LoadFault}
use Rattle.turn_verify.specs.declared.loading.LoadFault.TheVariants.{Lex, Parse, Rule, NoMemory}

-- ---- texts and their blocks

-- The tokens of a text, and the block that they read as, which is at most `GREATEST_HEIGHT` high.
pub record IsWritten (text : List ℕ) (tokens : List Token) (b : PlainBlock) : Type 0 where
  pub lexed : Answers text (Ok tokens)
  pub reads : Reads tokens b
  pub low : heights.Height b ≤ GREATEST_HEIGHT

-- The block that a text means: the one that is written, with a constant node of its value in place
-- of each synonym.
pub record IsRead (text : List ℕ) (tokens : List Token) (b : PlainBlock) : Type 0 where
  pub written : PlainBlock
  pub is_written : IsWritten text tokens written
  pub means : b ≡ expanded written

-- The text means the block, and none of the rules is broken.
pub record IsSoundText (text : List ℕ) (tokens : List Token) (b : PlainBlock) : Type 0 where
  pub read : IsRead text tokens b
  pub sound : Sound b
  pub declared : WellDeclared read.written

-- The text means some sound block.
pub record IsSound (text : List ℕ) : Type 0 where
  pub tokens : List Token
  pub block : PlainBlock
  pub is_so : IsSoundText text tokens block

-- The text is sound, and the set is that of its block: names and numbers in the order of the text.
-- On inputs that fit, each run is what its transition means. Each certificate is the longest path.
pub record IsLoaded (text : List ℕ) (d : Draft) : Type 0 where
  pub tokens : List Token
  pub block : PlainBlock
  pub sound : IsSoundText text tokens block
  pub matches : MatchesBlock block d
  pub runs : RunsAsMeant block d

-- The result is a value with P, or memory ran out.
abbrev pub Gives : {A : Type 0} → Result A LoadFault → (A → Type 0) → Type 0
Gives (Ok x) P = P x
Gives (Err (Lex fault line)) P = ⊥
Gives (Err (Parse fault line)) P = ⊥
Gives (Err (Rule fault line)) P = ⊥
Gives (Err NoMemory) P = Unit {0}

-- ---- refusals, and their lines

-- The line of a place in a text, from 1: one more than the number of line feeds before the place.
abbrev pub line_at : List ℕ → ℕ → ℕ
line_at text place = count_by (λ b. b == 10) (take place text) + 1

-- The place of the token with this index; of the last token if there are fewer; 0 if there are
-- none.
abbrev pub token_place : List Token → ℕ → ℕ
token_place tokens index =
    option_map_or (λ (t : Token). t.start) (slice_get tokens (min index (length tokens - 1))) 0

-- The text has no tokens, because of this fault in this line.
pub record IsUnlexed (text : List ℕ) (fault : LexFault) (line : ℕ) : Type 0 where
  pub answers : Answers text (Err fault)
  pub there : line ≡ line_at text (place_of fault)

-- The tokens read as no block, or as one that is too high. The fault names the first token at which
-- the reading stops, or the first statement that is too high.
abbrev pub IsUnread : List ℕ → List Token → ParseFault → ℕ → Type 0
IsUnread text tokens (parsing.Unexpected index) line =
    refusals.Refuses tokens (parsing.Unexpected index)
    × Settled tokens (Err (parsing.Unexpected index)) ×
    (line ≡ line_at text (token_place tokens index))
IsUnread text tokens (parsing.TooDeep place) line =
    refusals.Refuses tokens (parsing.TooDeep place) × (line ≡ line_at text place)
IsUnread text tokens parsing.NoMemory line = ⊥

-- The place of a broken rule. Limits, and paths that read an unset variable, have no place.
abbrev pub rule_place : RuleFault → Option ℕ
rule_place (rules.DoubleName place) = Some place
rule_place (rules.UnknownName place) = Some place
rule_place (rules.WrongSort place) = Some place
rule_place (rules.NoState place) = Some place
rule_place (rules.NoReceiver place) = Some place
rule_place (rules.TwoReceivers place) = Some place
rule_place (rules.JoinCycle place) = Some place
rule_place (rules.NoAnswer place) = Some place
rule_place (rules.BadDivisor place) = Some place
rule_place (rules.Limit which) = None
rule_place (rules.Unset variable path) = None
rule_place rules.NoMemory = None

-- The text that reads as this block breaks this rule, and no rule with a lesser number.
pub record IsUnsound (text : List ℕ) (b : PlainBlock) (fault : RuleFault) (line : Option ℕ) :
    Type 0 where
  pub refuses : RefusesText b fault
  pub named : fault ≡ rules.NoMemory → ⊥
  pub there : line ≡ option_map (line_at text) (rule_place fault)

-- What a refusal states about the text. Out of memory states nothing.
abbrev pub IsRefused : List ℕ → LoadFault → Type 0
IsRefused text (Lex fault line) = IsUnlexed text fault line
IsRefused text (Parse fault line) =
    (tokens : List Token) × Answers text (Ok tokens) × IsUnread text tokens fault line
IsRefused text (Rule fault line) =
    (tokens : List Token) × (b : PlainBlock) × IsWritten text tokens b × IsUnsound text b fault line
IsRefused text NoMemory = Unit {0}
