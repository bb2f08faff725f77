use Rattle.std.proofs.Common.{codes, refl}
use Rattle.std.proofs.lemmas.Result.{IfOk-weaker}
use Rattle.clap.specs.Words.{app_of}
use Rattle.mtp2_words.specs.Commands.{option_word, IsCommand}
use Rattle.mtp2_words.proofs.Building.{with_word}
use Rattle.mtp2_words.proofs.set_commands.with_streams.Goals as goal

pub returns : goal.returns
returns c = λ local.
    let begun : IsCommand (app_of c.args.command) c.args.command = record { app_is = refl; local = local } in
    let orders = with_word _ (option_word (codes "orders")) _ c.option_word-orders.result c.in_ok-arg.field-0 begun
    c.option_word-orders.ensures.rule c.option_word-orders.ensures.local c.in_ok-arg.ensures in
    let reports = with_word _ (option_word (codes "reports")) _ c.option_word-reports.result c.in_ok-arg-2.field-0 orders
    c.option_word-reports.ensures.rule c.option_word-reports.ensures.local c.in_ok-arg-2.ensures in
    let capture = with_word _ (option_word (codes "capture")) _ c.option_word-capture.result c.in_ok-arg-3.field-0 reports
    c.option_word-capture.ensures.rule c.option_word-capture.ensures.local c.in_ok-arg-3.ensures in
    IfOk-weaker c.arg-4.result _ _ (λ r a. with_word _ (option_word (codes "measures")) _ c.option_word-measures.result r capture
    c.option_word-measures.ensures.rule c.option_word-measures.ensures.local a) c.arg-4.ensures
