use Rattle.std.proofs.Common.{codes, refl}
use Rattle.std.proofs.lemmas.Result.{IfOk-weaker}
use Rattle.clap.specs.Words.{app_of}
use Rattle.mtp2_words.specs.Commands.{option_word, flag_word, IsCommand}
use Rattle.mtp2_words.proofs.Building.{with_word}
use Rattle.mtp2_words.proofs.commands.with_count_options.Goals as goal

pub returns : goal.returns
returns c = λ local.
    let begun : IsCommand (app_of c.args.command) c.args.command = record { app_is = refl; local = local } in
    let coverage = with_word _ (option_word (codes "coverage")) _ c.option_word-coverage.result c.in_ok-arg.field-0 begun
    c.option_word-coverage.ensures.rule c.option_word-coverage.ensures.local c.in_ok-arg.ensures in
    let thrown = with_word _ (option_word (codes "thrown")) _ c.option_word-thrown.result c.in_ok-arg-2.field-0 coverage
    c.option_word-thrown.ensures.rule c.option_word-thrown.ensures.local c.in_ok-arg-2.ensures in
    let capture = with_word _ (option_word (codes "capture")) _ c.option_word-capture.result c.in_ok-arg-3.field-0 thrown
    c.option_word-capture.ensures.rule c.option_word-capture.ensures.local c.in_ok-arg-3.ensures in
    IfOk-weaker c.arg-4.result _ _ (λ r a. with_word _ (flag_word (codes "every")) _ c.flag_word-every.result r capture
    c.flag_word-every.ensures.rule c.flag_word-every.ensures.local a) c.arg-4.ensures
