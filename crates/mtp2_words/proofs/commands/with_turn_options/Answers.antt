use Rattle.std.proofs.Common.{codes, refl}
use Rattle.std.proofs.lemmas.Result.{IfOk-weaker}
use Rattle.clap.specs.Words.{app_of}
use Rattle.mtp2_words.specs.Commands.{option_word, flag_word, IsCommand}
use Rattle.mtp2_words.proofs.Building.{with_word}
use Rattle.mtp2_words.proofs.commands.with_turn_options.Goals as goal

pub returns : goal.returns
returns c = λ local.
    let begun : IsCommand (app_of c.args.command) c.args.command = record { app_is = refl; local = local } in
    let echo = with_word _ (flag_word (codes "echo")) _ c.flag_word-echo.result c.in_ok-arg.field-0 begun
    c.flag_word-echo.ensures.rule c.flag_word-echo.ensures.local c.in_ok-arg.ensures in
    let trace = with_word _ (option_word (codes "trace")) _ c.option_word-trace.result c.in_ok-arg-2.field-0 echo
    c.option_word-trace.ensures.rule c.option_word-trace.ensures.local c.in_ok-arg-2.ensures in
    let chart = with_word _ (option_word (codes "chart")) _ c.option_word-chart.result c.in_ok-arg-3.field-0 trace
    c.option_word-chart.ensures.rule c.option_word-chart.ensures.local c.in_ok-arg-3.ensures in
    IfOk-weaker c.arg-4.result _ _ (λ r a. with_word _ (option_word (codes "turns")) _ c.option_word-turns.result r chart
    c.option_word-turns.ensures.rule c.option_word-turns.ensures.local a) c.arg-4.ensures
