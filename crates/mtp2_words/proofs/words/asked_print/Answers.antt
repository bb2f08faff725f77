use Rattle.std.proofs.lemmas.Option.{IfSome_then}
use Rattle.clap.specs.Words.{found_of, rows_of}
use Rattle.mtp2_words.specs.Asked.{given_by}
use Rattle.mtp2_words.proofs.Asking.{is_print, print_all, prints, prints_nothing}
use Rattle.mtp2_words.proofs.words.asked_print.Goals as goal

pub returns-clause-named : goal.returns-clause-named
returns-clause-named c = IfSome_then c.printed.result c.printed.ensures.print (λ r h. is_print _ r h)

pub returns-clause-asked : goal.returns-clause-asked
returns-clause-asked c = IfSome_then c.printed.result c.printed.ensures.print
    (λ r h. prints (given_by c.args.given.now) _ r c.in_ok-word.ensures h)

pub returns-clause-none : goal.returns-clause-none
returns-clause-none c = λ n. prints_nothing (given_by c.args.given.now) _ c.in_ok-word.ensures (c.printed.ensures.none n)

pub returns-clause-all : goal.returns-clause-all
returns-clause-all c = IfSome_then c.printed.result c.printed.ensures.print (λ r h. print_all (rows_of (found_of c.args.given.now)) _ r h)
