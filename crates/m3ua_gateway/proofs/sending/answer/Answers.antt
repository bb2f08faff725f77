use Rattle.std.proofs.Common.{ℕ, List, Some, sym, ap, ◌∙◌}
use Rattle.m3ua_gateway.specs.declared.table.Action.{Action}
use Rattle.m3ua_gateway.specs.Sending.{reads, acknowledgement, answer}
use Rattle.m3ua_gateway.proofs.sending.answer.Goals as goal

pub returns-in-Notify : goal.returns-in-Notify
returns-in-Notify c = λ ps read. ap (λ (xs : List ℕ). Some xs) c.notify.ensures ∙ ap (λ (a : Action). answer c.args.context c.args.code c.args.heard.now a ps) (sym c.in-Notify.is)

pub returns-in-Error : goal.returns-in-Error
returns-in-Error c = λ ps read. ap (λ (xs : List ℕ). Some xs) (c.error.ensures ps (λ e. read (ap reads c.in-Error.is ∙ e))) ∙ ap (λ (a : Action). answer c.args.context c.args.code c.args.heard.now a ps) (sym c.in-Error.is)

pub returns-in-Refuse : goal.returns-in-Refuse
returns-in-Refuse c = λ ps read. ap (λ (xs : List ℕ). Some xs) c.refuse.ensures ∙ ap (λ (a : Action). answer c.args.context c.args.code c.args.heard.now a ps) (sym c.in-Refuse.is)

pub returns-in-UpAck : goal.returns-in-UpAck
returns-in-UpAck c = λ ps read. c.acknowledge.ensures ps read ∙ ap (λ (a : Action). acknowledgement c.args.context c.args.heard.now a ps) c.in-UpAck.is ∙ ap (λ (a : Action). answer c.args.context c.args.code c.args.heard.now a ps) (sym c.in-UpAck.is)

pub returns-in-DownAck : goal.returns-in-DownAck
returns-in-DownAck c = λ ps read. c.acknowledge-in-DownAck.ensures ps read ∙ ap (λ (a : Action). acknowledgement c.args.context c.args.heard.now a ps) c.in-DownAck.is ∙ ap (λ (a : Action). answer c.args.context c.args.code c.args.heard.now a ps) (sym c.in-DownAck.is)

pub returns-in-BeatAck : goal.returns-in-BeatAck
returns-in-BeatAck c = λ ps read. c.acknowledge-in-BeatAck.ensures ps read ∙ ap (λ (a : Action). acknowledgement c.args.context c.args.heard.now a ps) c.in-BeatAck.is ∙ ap (λ (a : Action). answer c.args.context c.args.code c.args.heard.now a ps) (sym c.in-BeatAck.is)

pub returns-in-ActiveAck : goal.returns-in-ActiveAck
returns-in-ActiveAck c = λ ps read. c.acknowledge-in-ActiveAck.ensures ps read ∙ ap (λ (a : Action). acknowledgement c.args.context c.args.heard.now a ps) c.in-ActiveAck.is ∙ ap (λ (a : Action). answer c.args.context c.args.code c.args.heard.now a ps) (sym c.in-ActiveAck.is)

pub returns-in-InactiveAck : goal.returns-in-InactiveAck
returns-in-InactiveAck c = λ ps read. c.acknowledge-in-InactiveAck.ensures ps read ∙ ap (λ (a : Action). acknowledgement c.args.context c.args.heard.now a ps) c.in-InactiveAck.is ∙ ap (λ (a : Action). answer c.args.context c.args.code c.args.heard.now a ps) (sym c.in-InactiveAck.is)

pub returns-in-Registered : goal.returns-in-Registered
returns-in-Registered c = λ ps read. ap (λ (a : Action). answer c.args.context c.args.code c.args.heard.now a ps) (sym c.in-Registered.is)

pub returns-in-Destinations : goal.returns-in-Destinations
returns-in-Destinations c = λ ps read. ap (λ (a : Action). answer c.args.context c.args.code c.args.heard.now a ps) (sym c.in-Destinations.is)

pub returns-in-Audited : goal.returns-in-Audited
returns-in-Audited c = λ ps read. ap (λ (a : Action). answer c.args.context c.args.code c.args.heard.now a ps) (sym c.in-Audited.is)

pub returns-in-Take : goal.returns-in-Take
returns-in-Take c = λ ps read. ap (λ (a : Action). answer c.args.context c.args.code c.args.heard.now a ps) (sym c.in-Take.is)

pub returns-in-Count : goal.returns-in-Count
returns-in-Count c = λ ps read. ap (λ (a : Action). answer c.args.context c.args.code c.args.heard.now a ps) (sym c.in-Count.is)

pub returns-in-Release : goal.returns-in-Release
returns-in-Release c = λ ps read. ap (λ (a : Action). answer c.args.context c.args.code c.args.heard.now a ps) (sym c.in-Release.is)

pub returns-in-Lose : goal.returns-in-Lose
returns-in-Lose c = λ ps read. ap (λ (a : Action). answer c.args.context c.args.code c.args.heard.now a ps) (sym c.in-Lose.is)
