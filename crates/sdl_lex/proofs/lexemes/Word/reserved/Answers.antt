-- Every reserved word is in the table.
use Rattle.sdl_lex.proofs.WordLemmas.{IfNone-every}
use Rattle.sdl_lex.proofs.lexemes.Word.reserved.Goals as goal

pub returns-clause-none : goal.returns-clause-none
returns-clause-none c = IfNone-every c.first_spelled.result c.args.spelling.now c.first_spelled.ensures.none
