use Rattle.std.proofs.Common.{inl, inr, refl, None}
use Rattle.m3ua_gateway.proofs.AskingLaws.{error_heard, error_refused, heard_carried, refused_carried}
use Rattle.m3ua_gateway.proofs.asking.request_of.Goals as goal

pub returns-in-Ok-clause-asks : goal.returns-in-Ok-clause-asks
returns-in-Ok-clause-asks c =
    let found = c.in-Ok.ensures.found in
    inl (record { kind = c.in-Ok.frame.kind; parameters = found.0 }, found.2, c.hear.ensures.what found.0 found.1, c.hear.ensures.message found.0 found.1)

pub returns-in-Ok-clause-quiet : goal.returns-in-Ok-clause-quiet
returns-in-Ok-clause-quiet c = λ e.
    let found = c.in-Ok.ensures.found in
    error_heard c.args.context c.args.octets.now (record { kind = c.in-Ok.frame.kind; parameters = found.0 }) c.hear.result.message c.hear.result.happening found.2 (c.hear.ensures.what found.0 found.1) e

pub returns-in-Err-clause-asks : goal.returns-in-Err-clause-asks
returns-in-Err-clause-asks c = inr (c.in-Err.fault, c.in-Err.ensures.refused, c.refusal.ensures, refl, c.code.ensures)

pub returns-in-Err-clause-quiet : goal.returns-in-Err-clause-quiet
returns-in-Err-clause-quiet c = λ e. error_refused c.args.octets.now c.refusal.result c.refusal.ensures e

pub returns-in-Ok-clause-carried : goal.returns-in-Ok-clause-carried
returns-in-Ok-clause-carried c =
    let found = c.in-Ok.ensures.found in
    heard_carried c.args.context (record { kind = c.in-Ok.frame.kind; parameters = found.0 }) c.hear.result.message c.hear.result.happening (c.hear.ensures.what found.0 found.1)

pub returns-in-Err-clause-carried : goal.returns-in-Err-clause-carried
returns-in-Err-clause-carried c = refused_carried c.args.octets.now None c.refusal.result c.refusal.ensures
