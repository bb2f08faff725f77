-- The word at which a refusal points.
use Rattle.std.specs.Prelude.{◌≡◌, ℕ, ◌+◌, ◌==◌, Bool, true, false, ◌&&◌, if◌then◌else◌, List, []}
use Rattle.std.specs.Prelude.{◌∷◌, Option, Some, None, is_some, option_map, MatchOption, Ok, codes}
use Rattle.std.specs.Prelude.{string_bytes}
use Rattle.std.specs.Option.{option_map_or}
use Rattle.sdl_lex.specs.Lexed.{Answers}
use Rattle.sdl_lex.specs.Printed as lexis
use Rattle.sdl_tree.specs.Printed as parser
use Rattle.sdl_sound.specs.Printed as rules
use Rattle.sdl_sound.specs.declared.fault.RuleFault.{RuleFault}
use Rattle.sdl_sound.specs.declared.fault.RuleFault.TheVariants as broken
use Rattle.sdl_tree.specs.declared.fault.ParseFault.{ParseFault}
use Rattle.sdl_tree.specs.declared.fault.ParseFault.TheVariants as parsing
use Rattle.sdl_lex.specs.declared.lexemes.Token.{Token}
use Rattle.sdl_lex.specs.declared.lexemes.LexFault.{LexFault}
use Rattle.sdl_lex.specs.declared.lexemes.LexFault.TheVariants.{BadCharacter, OpenComment, TooLong}
use Rattle.sdl_lex.specs.declared.lexemes.LexFault.TheVariants.{NoMemory as no_tokens}
use Rattle.script_point.specs.Pointed.{bare_text, IsPointed}
use Rattle.script_point.specs.declared.notes.Explained.{Explained}
use Rattle.script_point.specs.declared.shown.Word.{Word}
use Rattle.mtp2_text.specs.Loaded.{token_place, rule_place}
use Rattle.mtp2_text.specs.turn_verify_types.loading.LoadFault.{LoadFault}
use Rattle.mtp2_text.specs.turn_verify_types.loading.LoadFault.TheVariants.{Lex, Parse, Rule}
use Rattle.mtp2_text.specs.turn_verify_types.loading.LoadFault.TheVariants.{NoMemory}

-- The end of the token that begins at a place, or `place + 1` if none does.
abbrev pub token_end : List Token → ℕ → ℕ
token_end [] place = place + 1
token_end (t ∷ ts) place = if t.start == place then t.end else token_end ts place

-- the token that begins at a place
abbrev pub token_word : List Token → ℕ → Word
token_word tokens place = record { start = place; end = token_end tokens place }

-- the byte at which a fault of the lexis begins
abbrev pub lex_word : LexFault → Option Word
lex_word (BadCharacter place) = Some (record { start = place; end = place + 1 })
lex_word (OpenComment place) = Some (record { start = place; end = place + 1 })
lex_word (TooLong place) = Some (record { start = place; end = place + 1 })
lex_word no_tokens = None

-- The token that the parser can't accept, or the first one of a statement nested too deep.
abbrev pub parse_word : List Token → ParseFault → Option Word
parse_word tokens (parsing.Unexpected index) = Some (token_word tokens (token_place tokens index))
parse_word tokens (parsing.TooDeep place) = Some (token_word tokens place)
parse_word tokens parsing.NoMemory = None

-- The word at which a refusal of a text with these tokens points: the one at the place that the
-- refusal names.
abbrev pub word_of : List Token → LoadFault → Option Word
word_of tokens (Lex fault line) = lex_word fault
word_of tokens (Parse fault line) = parse_word tokens fault
word_of tokens (Rule fault line) = option_map (token_word tokens) (rule_place fault)
word_of tokens NoMemory = None

-- The fault without its line number.
abbrev pub name_text : LoadFault → List ℕ
name_text (Lex fault line) = lexis.fault_text fault
name_text (Parse fault line) = parser.fault_text fault
name_text (Rule fault line) = rules.fault_text fault
name_text NoMemory = codes "out of memory"

-- S4 names where a transition begins that runs off its end. It may be found where it runs off.
abbrev pub runs_off : RuleFault → Bool
runs_off (broken.DoubleName place) = false
runs_off (broken.UnknownName place) = false
runs_off (broken.WrongSort place) = false
runs_off (broken.NoState place) = true
runs_off (broken.NoReceiver place) = false
runs_off (broken.TwoReceivers place) = false
runs_off (broken.JoinCycle place) = false
runs_off (broken.NoAnswer place) = false
runs_off (broken.BadDivisor place) = false
runs_off (broken.Limit which) = false
runs_off (broken.Unset variable path) = false
runs_off broken.NoMemory = false

abbrev pub is_found_elsewhere : LoadFault → Bool
is_found_elsewhere (Lex fault line) = false
is_found_elsewhere (Parse fault line) = false
is_found_elsewhere (Rule fault line) = runs_off fault
is_found_elsewhere NoMemory = false

abbrev pub named_word : List Token → LoadFault → Option ℕ → Option Word
named_word tokens fault found =
    if is_found_elsewhere fault && is_some found then None else word_of tokens fault

-- The word at the place that a refusal names; if it names none, the token at `found`. For S4
-- `found` comes first.
abbrev pub word_in : List Token → LoadFault → Option ℕ → Option Word
word_in tokens fault found =
    option_map_or (λ word. Some word) (named_word tokens fault found)
    (option_map (token_word tokens) found)

-- The lines point at a refusal of a text with these tokens; without a place there is one line.
abbrev pub IsShown : List ℕ → List Token → LoadFault → Explained → List ℕ → Type 0
IsShown text tokens fault told lines =
    MatchOption (word_in tokens fault told.found)
    (lines ≡ bare_text (name_text fault) (string_bytes told.notes.said))
    (λ word. IsPointed text word (name_text fault) told.notes lines)

-- The lines point at the word that the refusal names, or at the place found, and contain the notes.
pub record IsPointedOut (text : List ℕ) (fault : LoadFault) (told : Explained) (lines : List ℕ) :
    Type 0 where
  pub tokens : List Token
  pub are_all : (ts : List Token) → Answers text (Ok ts) → ts ≡ tokens
  pub shown : IsShown text tokens fault told lines
