use Rattle.std.proofs.Common.{Some, sym, ap, ◌∙◌}
use Rattle.resend_store.specs.declared.messages.Msu.{Msu}
use Rattle.m3ua_gateway.proofs.QueueLaws.{nowhere, stands}
use Rattle.m3ua_gateway.proofs.queue.first_in.Goals as goal

pub returns-in-None : goal.returns-in-None
returns-in-None c = sym (nowhere c.args.selection c.args.messages.now (sym c.in-None.ensures.value)).0

pub returns-in-Some : goal.returns-in-Some
returns-in-Some c =
    let m : Msu = c.index-messages-place.result in
    ap (λ (x : Msu). Some x) c.index-messages-place.is ∙ sym (stands c.args.selection c.args.messages.now c.in-Some.place m (sym c.in-Some.ensures.value)).first
