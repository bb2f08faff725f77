use Rattle.std.proofs.Common.{◌≡◌, length, map}
use Rattle.sdl_lex.specs.declared.lexemes.Symbol.TheVariants.{Comma}
use Rattle.sdl_productions.specs.Tokens.{a_symbol}
use Rattle.sdl_productions.specs.Readings.{many, prepend, behind_comma, separated_from}
use Rattle.sdl_tree.proofs.production.read_more.Given as goal

abbrev pub invariant-rows : goal.invariant-rows
invariant-rows g l =
    separated_from (g.T.Production.view l.fn.first) g.T.Production.reading l.tokens
    ≡ prepend (map g.T.Production.view l.items.items) (many (a_symbol Comma) (behind_comma g.T.Production.reading) l.rest)

abbrev pub decreases-rows : goal.decreases-rows
decreases-rows g l = length l.rest
