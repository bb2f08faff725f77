use Rattle.std.proofs.Common.{codes, refl}
use Rattle.std.proofs.lemmas.Result.{IfOk-weaker}
use Rattle.clap.specs.Words.{app_of}
use Rattle.mtp2_words.specs.Commands.{option_word, IsCommand}
use Rattle.mtp2_words.proofs.Building.{with_word}
use Rattle.mtp2_words.proofs.commands.with_measures_option.Goals as goal

pub returns : goal.returns
returns c = λ local.
    let begun : IsCommand (app_of c.args.command) c.args.command = record { app_is = refl; local = local } in
    IfOk-weaker c.arg.result _ _ (λ r a. with_word _ (option_word (codes "measures")) _ c.option_word-measures.result r begun
    c.option_word-measures.ensures.rule c.option_word-measures.ensures.local a) c.arg.ensures
