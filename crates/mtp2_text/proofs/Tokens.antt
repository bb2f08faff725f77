-- The tokens of a text.
use Rattle.std.proofs.Common.{◌≡◌, ℕ, List, refl}
use Rattle.std.specs.Prelude.{Result, Ok, Err}
use Rattle.sdl_lex.specs.Lexed.{Agrees}
use Rattle.sdl_lex.specs.declared.lexemes.Token.{Token}
use Rattle.sdl_lex.specs.declared.lexemes.LexFault.{LexFault}
use Rattle.sdl_lex.specs.declared.lexemes.LexFault.TheVariants.{BadCharacter, OpenComment, TooLong, NoMemory}
use Rattle.std.specs.Global.{Vec}

pub same_tokens : (ts us : List Token) → (let r : Result (List Token) LexFault = Ok ts in r ≡ Ok us) → ts ≡ us
same_tokens ts us is = cc

-- a text with a fault has no tokens
pub no_tokens : (fault : LexFault) (ts : List Token) → (fault ≡ NoMemory → ⊥) → (let r : Result (Vec Token) LexFault = Err fault in Agrees r (Ok ts)) → ⊥
no_tokens (BadCharacter place) ts other agrees = cc
no_tokens (OpenComment place) ts other agrees = cc
no_tokens (TooLong place) ts other agrees = cc
no_tokens NoMemory ts other agrees = other refl
