use Rattle.std.proofs.Common.{◌∙◌, ◌++◌, ap}
use Rattle.std.specs.Prelude.{codes}
use Rattle.std.specs.Fmt.{decimal}
use Rattle.std.proofs.lemmas.Result.{IfOk-weaker}
use Rattle.script_ends.specs.TermAnswers.{Retrieves}
use Rattle.script_ends.proofs.TermAnswers.{given_out, not_given}
use Rattle.script_ends.proofs.answers.retrieve.Goals as goal

pub returns-in-Ok : goal.returns-in-Ok
returns-in-Ok c =
    IfOk-weaker c.text_line.result _ (λ v. Retrieves c.args.behind c.args.terminal.now v.items c.retrieve_telling.new.self)
    (λ v is.
    given_out c.args.behind _ _ v.items c.in-Ok.messages.items _ (is ∙ ap (λ n. codes "ok " ++ decimal n) c.how_many-count.ensures) c.in-Ok.ensures.bad
    c.in-Ok.ensures.messages c.in-Ok.ensures.ok)
    c.text_line.ensures

pub returns-in-Err : goal.returns-in-Err
returns-in-Err c =
    IfOk-weaker c.unretrieved.result _ (λ v. Retrieves c.args.behind c.args.terminal.now v.items c.retrieve_telling.new.self)
    (λ v is. not_given c.args.behind _ _ v.items c.in-Err.error is c.in-Err.ensures.bad c.in-Err.ensures.err) c.unretrieved.ensures
