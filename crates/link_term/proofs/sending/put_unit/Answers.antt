use Rattle.std.proofs.Common.{ℕ, List, ◌++◌, ap, ◌∙◌}
use Rattle.link_term.proofs.Speaking.{speaks_one}
use Rattle.link_term.proofs.sending.put_unit.Goals as goal

pub returns-clause-speaks : goal.returns-clause-speaks
returns-clause-speaks c =
    let line = c.put-line.ensures.sent in
    speaks_one c.args.sending.now c.put-line.new.self c.args.octets.now.items c.extend_from_slice.new.self.items c.put-line.result.items line.0
    c.args.unit.now line.1 line.2
    (c.in-Ok.ensures.items ∙ ap (λ (xs : List ℕ). c.args.octets.now.items ++ xs) c.as_slice.ensures.value) line.3
