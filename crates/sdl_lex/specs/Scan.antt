-- What the parts of the lexer find at a place of a text.
use Rattle.std.specs.Prelude.{◌≡◌, ℕ, List, Option, Some, None}
use Rattle.sdl_lex.specs.declared.lexemes.Lexeme.{Lexeme}
use Rattle.sdl_lex.specs.declared.lexemes.LexFault.{LexFault}
use Rattle.sdl_lex.specs.Lexed.{IsBlank, IsToken, bare, IsFaultAt, place_of}
pub use Rattle.sdl_lex.specs.Runs.{IsRun}

-- the item between two places: a token, or if there is no lexeme, white space or a comment
abbrev pub Stands : List ℕ → ℕ → Option Lexeme → ℕ → Type 0
Stands text at (Some lexeme) end = IsToken text (bare lexeme at end)
Stands text at None end = IsBlank text at end

-- the text has a fault that begins at the place
abbrev pub IsFaultThere : List ℕ → ℕ → LexFault → Type 0
IsFaultThere text at fault = IsFaultAt text fault × (place_of fault ≡ at)
