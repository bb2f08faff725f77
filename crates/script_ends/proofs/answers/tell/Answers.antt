use Rattle.std.proofs.lemmas.Result.{IfOk-weaker}
use Rattle.link_term.specs.Machine.{tidied}
use Rattle.link_term.specs.Offering.{command_event}
use Rattle.actor_machine.specs.declared.reply.Reply.TheVariants as reply
use Rattle.script_ends.specs.TermAnswers.{command_of, IsAsked}
use Rattle.script_ends.proofs.TermAnswers.{names_stay, asked_ok, asked_refused, asked_same}
use Rattle.script_ends.proofs.answers.tell.Goals as goal

pub returns-in-Ok : goal.returns-in-Ok
returns-in-Ok c =
    let t = c.args.terminal.now in
    let names = (tidied t.processes).names in
    IfOk-weaker c.from_slice.result _ (λ v. IsAsked (command_event t.processes.names (command_of c.args.order)) t v.items c.command.new.self)
    (λ v is.
    asked_same names t.processes.names c.command_of.result (command_of c.args.order) t c.command.new.self v.items (names_stay t.processes) c.command_of.ensures
    (asked_ok (command_event names c.command_of.result) t c.command.new.self v.items is c.in-Ok.ensures.answer c.in-Ok.ensures.ok))
    c.from_slice.ensures.items

pub returns-in-Err : goal.returns-in-Err
returns-in-Err c =
    let t = c.args.terminal.now in
    let names = (tidied t.processes).names in
    IfOk-weaker c.refused.result _ (λ v. IsAsked (command_event t.processes.names (command_of c.args.order)) t v.items c.command.new.self)
    (λ v is.
    asked_same names t.processes.names c.command_of.result (command_of c.args.order) t c.command.new.self v.items (names_stay t.processes) c.command_of.ensures
    (asked_refused {A = Unit {0}} (λ x. reply.Offered) (command_event names c.command_of.result) t c.command.new.self v.items c.in-Err.error is
    c.in-Err.ensures.answer c.in-Err.ensures.err))
    c.refused.ensures
