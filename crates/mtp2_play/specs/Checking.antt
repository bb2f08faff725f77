-- The output of `check` for a text, and whether the text has warnings.
use Rattle.std.specs.Prelude.{◌≡◌, ◌⊎◌, ℕ, Bool, if◌then◌else◌, List, [], Option, Ok}
use Rattle.sdl_lex.specs.Lexed.{Answers}
use Rattle.sdl_lex.specs.declared.lexemes.Token.{Token}
use Rattle.sdl_tables.specs.Plain.{PlainBlock}
use Rattle.sdl_warnings.specs.Warned.{text_warnings}
use Rattle.script_check.specs.Checked.{IsGiven, PrintsCosts, PrintsRefusal}
use Rattle.mtp2_play.specs.Warned.{IsMeant}
use Rattle.mtp2_words.specs.declared.requests.Warned.{Warned}
use Rattle.mtp2_words.specs.declared.requests.Warned.TheVariants.{Unsaid, Told, Counted}

-- the text has a warning
pub record IsWarned (text : List ℕ) : Type 0 where
  pub tokens : List Token
  pub lexed : Answers text (Ok tokens)
  pub block : PlainBlock
  pub meant : IsMeant tokens block
  pub some : text_warnings meant.written block ≡ [] → ⊥

-- the text has none
pub record IsUnwarned (text : List ℕ) : Type 0 where
  pub tokens : List Token
  pub lexed : Answers text (Ok tokens)
  pub block : PlainBlock
  pub meant : IsMeant tokens block
  pub none : text_warnings meant.written block ≡ []

-- the exit status for an accepted text, by whether it has a warning
abbrev pub warned_status : Warned → Bool → ℕ
warned_status Unsaid some = 0
warned_status Told some = 0
warned_status Counted some = if some then 1 else 0

-- the output for a text with a warning, and for one without
abbrev pub PrintsWarned : Option (List ℕ) → Option (List ℕ) → List ℕ → Type 0
PrintsWarned old new bytes = PrintsCosts old new bytes × IsWarned bytes

abbrev pub PrintsUnwarned : Option (List ℕ) → Option (List ℕ) → List ℕ → Type 0
PrintsUnwarned old new bytes = PrintsCosts old new bytes × IsUnwarned bytes

-- the output of `check` without --warn: its costs, or why it is refused
pub record IsCheckedPlainly (known : Option (List ℕ)) (status : ℕ) (old new : Option (List ℕ)) :
    Type 0 where
  pub costs : status ≡ 0 → IsGiven known (PrintsCosts old new)
  pub refusal : status ≡ 2 → IsGiven known (PrintsRefusal old new)
  pub ends : (status ≡ 0) ⊎ (status ≡ 2) ⊎ (status ≡ 4)

-- The output with --warn. Only if warnings count, the status may be 1; then 1 means that there are
-- some, and 0 that there are none.
pub record IsCheckedBytes (known : Option (List ℕ)) (warned : Warned) (status : ℕ)
    (old new : Option (List ℕ)) : Type 0 where
  pub costs : status ≡ 0 → IsGiven known (PrintsCosts old new)
  pub asked : status ≡ 1 → warned ≡ Counted
  pub counted : status ≡ 1 → IsGiven known (PrintsWarned old new)
  pub clean : warned ≡ Counted → status ≡ 0 → IsGiven known (PrintsUnwarned old new)
  pub refusal : status ≡ 2 → IsGiven known (PrintsRefusal old new)
  pub ends : (status ≡ 0) ⊎ (status ≡ 1) ⊎ (status ≡ 2) ⊎ (status ≡ 4)
