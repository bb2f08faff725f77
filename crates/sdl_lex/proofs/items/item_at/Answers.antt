-- White space is a blank.
use Rattle.std.proofs.Common.{arith, sym, ◌∙◌}
use Rattle.sdl_lex.specs.Lexed.{white}
use Rattle.sdl_lex.proofs.items.item_at.Goals as goal

pub returns-then-is_white-clause-ok : goal.returns-then-is_white-clause-ok
returns-then-is_white-clause-ok c = (white (sym c.is_white.ensures ∙ c.if-is_white.true), omega arith, omega arith)
