use Rattle.std.proofs.Common.{codes, refl}
use Rattle.std.proofs.lemmas.Result.{IfOk-weaker}
use Rattle.clap.specs.Words.{app_of}
use Rattle.mtp2_words.specs.Commands.{option_word, flag_word, IsCommand}
use Rattle.mtp2_words.proofs.Building.{with_word}
use Rattle.mtp2_words.proofs.set_commands.with_octets.Goals as goal

pub returns : goal.returns
returns c = λ local.
    let begun : IsCommand (app_of c.args.command) c.args.command = record { app_is = refl; local = local } in
    let bits = with_word _ (option_word (codes "bits")) _ c.option_word-bits.result c.in_ok-arg.field-0 begun
    c.option_word-bits.ensures.rule c.option_word-bits.ensures.local c.in_ok-arg.ensures in
    let ahead = with_word _ (option_word (codes "ahead")) _ c.option_word-ahead.result c.in_ok-arg-2.field-0 bits
    c.option_word-ahead.ensures.rule c.option_word-ahead.ensures.local c.in_ok-arg-2.ensures in
    IfOk-weaker c.arg-3.result _ _ (λ r a. with_word _ (flag_word (codes "no-test")) _ c.flag_word-no_test.result r ahead
    c.flag_word-no_test.ensures.rule c.flag_word-no_test.ensures.local a) c.arg-3.ensures
