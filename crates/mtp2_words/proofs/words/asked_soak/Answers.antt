use Rattle.std.proofs.lemmas.Option.{IfSome_then}
use Rattle.clap.specs.Words.{found_of, rows_of}
use Rattle.mtp2_words.specs.Asked.{given_by}
use Rattle.mtp2_words.proofs.Asking.{is_soak, soak_all, soaks, soaks_nothing}
use Rattle.mtp2_words.proofs.words.asked_soak.Goals as goal

pub returns-clause-named : goal.returns-clause-named
returns-clause-named c = IfSome_then c.soaked.result c.soaked.ensures.soak (λ r h. is_soak _ _ r h)

pub returns-clause-asked : goal.returns-clause-asked
returns-clause-asked c = IfSome_then c.soaked.result c.soaked.ensures.soak
    (λ r h. soaks (given_by c.args.given.now) _ _ r c.in_ok-script.ensures c.in_ok-workers.ensures h)

pub returns-clause-none : goal.returns-clause-none
returns-clause-none c = λ n. soaks_nothing (given_by c.args.given.now) _ c.in_ok-workers.ensures (c.soaked.ensures.none n)

pub returns-clause-all : goal.returns-clause-all
returns-clause-all c = IfSome_then c.soaked.result c.soaked.ensures.soak (λ r h. soak_all (rows_of (found_of c.args.given.now)) _ _ r h)
