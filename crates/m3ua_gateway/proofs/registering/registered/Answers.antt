use Rattle.m3ua_gateway.proofs.registering.registered.Goals as goal

pub returns-in-None-clause-answer : goal.returns-in-None-clause-answer
returns-in-None-clause-answer c = λ ps are. c.in-None.ensures.found ps are

pub returns-in-Some-clause-answer : goal.returns-in-Some-clause-answer
returns-in-Some-clause-answer c = λ ps are.
    let next = c.in-Some.ensures.found ps are in
    (c.in-Some.value.now, next.0, c.identifier.result, next.2, next.1, c.identifier.ensures, c.respond.ensures)
