use Rattle.std.proofs.Common.{sym, ap, ◌∙◌, refl}
use Rattle.link_term.specs.Term.{Term}
use Rattle.link_term.proofs.Speaking.{spoke_none}
use Rattle.link_term.proofs.terminal.Terminal.put_next.Goals as goal

pub returns-in-None-clause-ok : goal.returns-in-None-clause-ok
returns-in-None-clause-ok c =
    spoke_none c.args.self.now c.unit_out.new.self c.args.octets.now.items c.args.octets.now.items
    (sym c.in-None.is ∙ c.in_ok-unit.ensures.unit)
    (ap (λ (t : Term). t.processes) c.in_ok-unit.ensures.ok) (ap (λ (t : Term). t.line) c.in_ok-unit.ensures.ok)
    (ap (λ (t : Term). t.sending) c.in_ok-unit.ensures.ok) refl
