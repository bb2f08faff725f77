use Rattle.std.proofs.Common.{codes, refl}
use Rattle.std.proofs.lemmas.Result.{IfOk-weaker}
use Rattle.clap.specs.Words.{app_of}
use Rattle.mtp2_words.specs.Commands.{option_word, IsCommand}
use Rattle.mtp2_words.proofs.Building.{with_word}
use Rattle.mtp2_words.proofs.commands.with_limit_options.Goals as goal

pub returns : goal.returns
returns c = λ local.
    let begun : IsCommand (app_of c.args.command) c.args.command = record { app_is = refl; local = local } in
    let messages = with_word _ (option_word (codes "n1")) _ c.option_word-messages.result c.in_ok-arg.field-0 begun
    c.option_word-messages.ensures.rule c.option_word-messages.ensures.local c.in_ok-arg.ensures in
    IfOk-weaker c.arg-2.result _ _ (λ r a. with_word _ (option_word (codes "n2")) _ c.option_word-octets.result r messages
    c.option_word-octets.ensures.rule c.option_word-octets.ensures.local a) c.arg-2.ensures
