-- A text without the word SYNONYM means what is written.
use Rattle.std.specs.Prelude.{◌≡◌, ℕ, false, List}
use Rattle.std.specs.List.{list_any}
use Rattle.sdl_lex.specs.Lexed.{is_synonym}
use Rattle.sdl_lex.specs.declared.lexemes.Token.{Token}
use Rattle.sdl_ast.specs.Plain.{PlainBlock}
use Rattle.sdl_compile.specs.SynonymLaws.{MeansItself}
use Rattle.turn_verify.specs.Loaded.{IsWritten}

-- if none of its tokens is the word SYNONYM, the text is accepted and refused as it is written
abbrev pub AsWritten : List Token → Type 0
AsWritten tokens =
    (text : List ℕ) (b : PlainBlock) → IsWritten text tokens b → list_any is_synonym tokens ≡ false
    → MeansItself b
