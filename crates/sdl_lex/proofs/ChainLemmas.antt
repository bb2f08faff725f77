-- Appends one more item to the chain of items read so far.
use Rattle.std.proofs.Common.{◌≡◌, ℕ, false, List, [], ◌∷◌, ◌++◌, refl, Option, Some, None}
use Rattle.sdl_lex.specs.declared.lexemes.Token.{Token}
use Rattle.sdl_lex.specs.declared.lexemes.Lexeme.{Lexeme}
use Rattle.sdl_lex.specs.Scan.{Stands}
use Rattle.sdl_lex.specs.Lexed.{IsBlank, bare, IsToken, Lexes, ended, skipped, taken}

pub Lexes-skip : {text : List ℕ} {mid from : ℕ} {tokens : List Token} (next : ℕ)
    → Lexes text mid from tokens → IsBlank text mid next → Lexes text next from tokens
Lexes-skip next ended blank = skipped next blank ended
Lexes-skip next (skipped n b rest) blank = skipped n b (Lexes-skip next rest blank)
Lexes-skip next (taken t s w i rest) blank = taken t s w i (Lexes-skip next rest blank)

pub Lexes-take : {text : List ℕ} {mid from : ℕ} {tokens : List Token} (token : Token)
    → Lexes text mid from tokens → token.start ≡ mid → token.with_synonyms ≡ false → IsToken text token → Lexes text token.end from (tokens ++ token ∷ [])
Lexes-take token ended start plain here = taken token start plain here ended
Lexes-take token (skipped n b rest) start plain here = skipped n b (Lexes-take token rest start plain here)
Lexes-take token (taken t s w i rest) start plain here = taken t s w i (Lexes-take token rest start plain here)

-- `Lexes-take` and `Lexes-skip` for the item that the lexer found: a token, or white space or a comment.
pub Lexes-found : (text : List ℕ) (mid end : ℕ) (found : Option Lexeme) (lexeme : Lexeme) (tokens more : List Token)
    → Lexes text mid 0 tokens → Stands text mid found end → found ≡ Some lexeme
    → more ≡ tokens ++ bare lexeme mid end ∷ [] → Lexes text end 0 more
Lexes-found text mid end (Some l) lexeme tokens more before here is longer =
    let same : l ≡ lexeme = cc in
    let step : Lexes text end 0 (tokens ++ bare l mid end ∷ []) =
    Lexes-take (bare l mid end) before refl refl here in
    rw (longer, ← same) step
Lexes-found text mid end None lexeme tokens more before here is longer = absurd (cc)

pub Lexes-none : (text : List ℕ) (mid end : ℕ) (found : Option Lexeme) (tokens : List Token)
    → Lexes text mid 0 tokens → Stands text mid found end → found ≡ None → Lexes text end 0 tokens
Lexes-none text mid end None tokens before here is = Lexes-skip end before here
Lexes-none text mid end (Some l) tokens before here is = absurd (cc)
