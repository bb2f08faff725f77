-- The tokens of a text without synonyms.
use Rattle.std.specs.Prelude.{◌≡◌, false, List}
use Rattle.sdl_lex.specs.declared.lexemes.Token.{Token}
use Rattle.sdl_lex.specs.Lexed.{is_synonym}
use Rattle.sdl_ast.specs.Plain.{PlainBlock}
use Rattle.sdl_ast.specs.Synonymless.{EachOf, IsPlain}
use Rattle.sdl_tree.specs.Syntax.{Reads}

-- the token isn't the word SYNONYM, and no token of its text is
abbrev pub IsPlainToken : Token → Type 0
IsPlainToken t = (t.with_synonyms ≡ false) × (is_synonym t ≡ false)

-- a text without the word SYNONYM has no synonyms
abbrev pub PlainReading : List Token → Type 0
PlainReading tokens = (b : PlainBlock) → EachOf IsPlainToken tokens → Reads tokens b → IsPlain b
