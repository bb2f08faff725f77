use Rattle.std.proofs.Common.{◌≡◌, List, refl, subst, ◌∙◌}
use Rattle.turn_code.specs.declared.value.Value.{Value}
use Rattle.actor_machine.specs.Ledger.{ask, state_of}
use Rattle.actor_machine.specs.declared.event.Event.TheVariants as event
use Rattle.script_seen.proofs.Steps.{offer_keeps, quiet_step}
use Rattle.script_seen.proofs.Tellings.{told_offer}
use Rattle.script_seen.proofs.tracing.Tracer.offer.Goals as goal

pub returns-in-Ok-clause-step : goal.returns-in-Ok-clause-step
returns-in-Ok-clause-step c =
    let o = c.args.offer.now in
    let P : List Value → Type 0 =
    λ vs. c.offer.new.self ≡ (ask c.args.self.now.again (event.Offer (record { actor = o.actor; signal = o.signal; values = record { items = vs } }))).book in
    quiet_step c.args.self.now _ (event.Offer o) (offer_keeps o) (subst P c.deref.ensures.0 c.in-Ok.ensures.book) c.in-Ok.ensures.next refl refl

pub returns-in-Ok-clause-text : goal.returns-in-Ok-clause-text
returns-in-Ok-clause-text c =
    c.in_ok-text.ensures ∙ told_offer c.args.self.now.every c.args.self.now.again.set (state_of c.args.self.now.again) c.args.offer.now
