use Rattle.std.proofs.Common.{◌≡◌, false, sym, ◌∙◌}
use Rattle.sdl_lex.specs.declared.lexemes.Symbol.TheVariants.{Minus}
use Rattle.sdl_productions.specs.Tokens.{begins, a_symbol}
use Rattle.sdl_productions.specs.DeclarationProductions.{constant_at}
use Rattle.sdl_tree.proofs.declarations.read_constant.Goals as goal

pub returns-in-Err-take : goal.returns-in-Err-take
unfolding constant_at
returns-in-Err-take c =
    let other : begins (a_symbol Minus) c.args.tokens.now ≡ false = sym c.stands_next.ensures ∙ c.if-stands_next.false in
    rw other c.in-Err-take.ensures

pub returns : goal.returns
unfolding constant_at
returns c =
    let other : begins (a_symbol Minus) c.args.tokens.now ≡ false = sym c.stands_next.ensures ∙ c.if-stands_next.false in
    rw other c.in-Ok-take.ensures
