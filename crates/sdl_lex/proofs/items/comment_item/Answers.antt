-- A comment is a blank.
use Rattle.std.proofs.Common.{arith}
use Rattle.sdl_lex.specs.Lexed.{comment}
use Rattle.sdl_lex.proofs.items.comment_item.Goals as goal

pub returns-in-Some-clause-ok : goal.returns-in-Some-clause-ok
returns-in-Some-clause-ok c =
    let found = c.in-Some.ensures.found in
    let after = found.0.after in
    let ends = found.0.ends in
    (comment found.0, omega arith, found.1)
