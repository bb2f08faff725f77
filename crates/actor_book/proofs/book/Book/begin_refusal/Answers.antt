use Rattle.std.proofs.Common.{◌≡◌, refl, ap, ◌∙◌}
use Rattle.actor_machine.specs.Ledger.{Ledger, state_of}
use Rattle.actor_machine.specs.Refusals.{refuses}
use Rattle.actor_machine.specs.declared.event.Event.TheVariants.{Begin}
use Rattle.actor_book.proofs.book.Book.begin_refusal.Goals as goal

-- a beginning requires two places: its own and that of its end
pub returns : goal.returns
returns c =
    let set : c.self.inside.set ≡ c.args.self.now.set = ap (λ (b : Ledger). b.set) c.self.view_is in
    let link : c.self.inside.link ≡ state_of c.args.self.now = c.self.invariant.state ∙ ap state_of c.self.view_is in
    c.refusal_with.ensures (Begin c.args.actor) refl
    (c.begin_refusal-refusal.ensures ∙ ap (λ d. refuses d c.self.inside.link (Begin c.args.actor)) set ∙ ap (λ w. refuses c.args.self.now.set w (Begin c.args.actor)) link)
