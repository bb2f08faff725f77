-- The tokens so far are marked.
use Rattle.std.proofs.Common.{◌≡◌, ◌++◌, map, take, drop}
use Rattle.sdl_lex.specs.Lexed.{marked}
use Rattle.sdl_lex.proofs.lexemes.mark.Given as goal

abbrev pub invariant-loop-token : goal.invariant-loop-token
invariant-loop-token l = l.tokens ≡ map (marked l.with_synonyms) (take l.token-index l.initial.tokens) ++ drop l.token-index l.initial.tokens
