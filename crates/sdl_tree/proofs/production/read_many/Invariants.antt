use Rattle.std.proofs.Common.{◌≡◌, length, map}
use Rattle.sdl_productions.specs.Readings.{many, prepend}
use Rattle.sdl_tree.proofs.production.read_many.Given as goal

abbrev pub invariant-rows : goal.invariant-rows
invariant-rows g l =
    many g.T.Listed.starts g.T.Production.reading l.tokens
    ≡ prepend (map g.T.Production.view l.items.items) (many g.T.Listed.starts g.T.Production.reading l.rest)

abbrev pub decreases-rows : goal.decreases-rows
decreases-rows g l = length l.rest
