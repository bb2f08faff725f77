use Rattle.std.proofs.Common.{ap, sym, ◌∙◌}
use Rattle.resend_store.specs.Window.{Window, Sending}
use Rattle.resend_store.specs.Steps.{gives}
use Rattle.resend_store.proofs.Nexts.{next_in_steps}
use Rattle.resend_store.proofs.sending.Sender.next_unit.Goals as goal

pub returns-clause-unit : goal.returns-clause-unit
returns-clause-unit c =
    c.give.ensures.unit ∙ ap (λ (w : Window). (gives w).unit) c.settle.ensures.settled
    ∙ sym (ap (λ (s : Sending). s.unit) (next_in_steps c.args.self.now c.settle.ensures.window))

pub returns-clause-left : goal.returns-clause-left
returns-clause-left c =
    c.give.ensures.left ∙ ap (λ (w : Window). (gives w).left) c.settle.ensures.settled
    ∙ sym (ap (λ (s : Sending). s.left) (next_in_steps c.args.self.now c.settle.ensures.window))
