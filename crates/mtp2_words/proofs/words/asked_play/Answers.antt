use Rattle.std.proofs.lemmas.Option.{IfSome_then}
use Rattle.clap.specs.Words.{found_of, rows_of}
use Rattle.mtp2_words.specs.Asked.{given_by}
use Rattle.mtp2_words.proofs.Asking.{is_play, play_all, plays, plays_nothing}
use Rattle.mtp2_words.proofs.words.asked_play.Goals as goal

pub returns-clause-named : goal.returns-clause-named
returns-clause-named c = IfSome_then c.played.result c.played.ensures.play (λ r h. is_play _ _ _ r h)

pub returns-clause-asked : goal.returns-clause-asked
returns-clause-asked c = IfSome_then c.played.result c.played.ensures.play
    (λ r h. plays (given_by c.args.given.now) _ _ _ r c.in_ok-set.ensures c.in_ok-script.ensures c.in_ok-seen.ensures.some h)

pub returns-clause-none : goal.returns-clause-none
returns-clause-none c = λ n. plays_nothing (given_by c.args.given.now) _ _ c.in_ok-set.ensures c.in_ok-script.ensures (c.played.ensures.none n)

pub returns-clause-all : goal.returns-clause-all
returns-clause-all c = IfSome_then c.played.result c.played.ensures.play (λ r h. play_all (rows_of (found_of c.args.given.now)) _ _ _ r h)
