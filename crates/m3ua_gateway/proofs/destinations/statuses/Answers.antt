use Rattle.std.proofs.Common.{ℕ, List, sym, ap, subst, ◌∙◌}
use Rattle.std.proofs.lemmas.Result.{IfOk-weaker}
use Rattle.m3ua_frames.specs.Parameters.{AreParameters}
use Rattle.m3ua_gateway.specs.declared.table.Action.{Action}
use Rattle.m3ua_gateway.specs.Destinations.{statuses}
use Rattle.m3ua_gateway.specs.Sending.{reads}
use Rattle.m3ua_gateway.proofs.destinations.statuses.Goals as goal

pub returns-in-Destinations : goal.returns-in-Destinations
returns-in-Destinations c = λ ps read. IfOk-weaker c.all_told.result _ _ (λ v e. e ∙ ap (λ (a : Action). statuses a c.args.destinations.now c.args.reached ps) (sym c.in-Destinations.is)) c.all_told.ensures

pub returns-in-Audited : goal.returns-in-Audited
returns-in-Audited c = λ ps read.
    let are = subst (λ (xs : List ℕ). AreParameters xs ps) (sym c.parameters_of.ensures.value) (read (ap reads c.in-Audited.is)) in
    IfOk-weaker c.audited.result _ _ (λ v e. e ∙ ap (λ (a : Action). statuses a c.args.destinations.now c.args.reached ps) (sym c.in-Audited.is)) (c.audited.ensures ps are)

pub returns-in-UpAck : goal.returns-in-UpAck
returns-in-UpAck c = λ ps read. c.new.ensures.items ∙ ap (λ (a : Action). statuses a c.args.destinations.now c.args.reached ps) (sym c.in-UpAck.is)

pub returns-in-DownAck : goal.returns-in-DownAck
returns-in-DownAck c = λ ps read. c.new-in-DownAck.ensures.items ∙ ap (λ (a : Action). statuses a c.args.destinations.now c.args.reached ps) (sym c.in-DownAck.is)

pub returns-in-BeatAck : goal.returns-in-BeatAck
returns-in-BeatAck c = λ ps read. c.new-in-BeatAck.ensures.items ∙ ap (λ (a : Action). statuses a c.args.destinations.now c.args.reached ps) (sym c.in-BeatAck.is)

pub returns-in-ActiveAck : goal.returns-in-ActiveAck
returns-in-ActiveAck c = λ ps read. c.new-in-ActiveAck.ensures.items ∙ ap (λ (a : Action). statuses a c.args.destinations.now c.args.reached ps) (sym c.in-ActiveAck.is)

pub returns-in-InactiveAck : goal.returns-in-InactiveAck
returns-in-InactiveAck c = λ ps read. c.new-in-InactiveAck.ensures.items ∙ ap (λ (a : Action). statuses a c.args.destinations.now c.args.reached ps) (sym c.in-InactiveAck.is)

pub returns-in-Notify : goal.returns-in-Notify
returns-in-Notify c = λ ps read. c.new-in-Notify.ensures.items ∙ ap (λ (a : Action). statuses a c.args.destinations.now c.args.reached ps) (sym c.in-Notify.is)

pub returns-in-Error : goal.returns-in-Error
returns-in-Error c = λ ps read. c.new-in-Error.ensures.items ∙ ap (λ (a : Action). statuses a c.args.destinations.now c.args.reached ps) (sym c.in-Error.is)

pub returns-in-Refuse : goal.returns-in-Refuse
returns-in-Refuse c = λ ps read. c.new-in-Refuse.ensures.items ∙ ap (λ (a : Action). statuses a c.args.destinations.now c.args.reached ps) (sym c.in-Refuse.is)

pub returns-in-Registered : goal.returns-in-Registered
returns-in-Registered c = λ ps read. c.new-in-Registered.ensures.items ∙ ap (λ (a : Action). statuses a c.args.destinations.now c.args.reached ps) (sym c.in-Registered.is)

pub returns-in-Take : goal.returns-in-Take
returns-in-Take c = λ ps read. c.new-in-Take.ensures.items ∙ ap (λ (a : Action). statuses a c.args.destinations.now c.args.reached ps) (sym c.in-Take.is)

pub returns-in-Count : goal.returns-in-Count
returns-in-Count c = λ ps read. c.new-in-Count.ensures.items ∙ ap (λ (a : Action). statuses a c.args.destinations.now c.args.reached ps) (sym c.in-Count.is)

pub returns-in-Release : goal.returns-in-Release
returns-in-Release c = λ ps read. c.new-in-Release.ensures.items ∙ ap (λ (a : Action). statuses a c.args.destinations.now c.args.reached ps) (sym c.in-Release.is)

pub returns-in-Lose : goal.returns-in-Lose
returns-in-Lose c = λ ps read. c.new-in-Lose.ensures.items ∙ ap (λ (a : Action). statuses a c.args.destinations.now c.args.reached ps) (sym c.in-Lose.is)
