use Rattle.std.proofs.Common.{drop, ap, ◌∙◌}
use Rattle.std.proofs.lemmas.Bool.{ne_eqb}
use Rattle.line_filter.proofs.Looking.{looked_at_end, looked_at_other}
use Rattle.line_filter.proofs.lines.OrderLines.look.Goals as goal

pub returns-then-octet-eq10 : goal.returns-then-octet-eq10
returns-then-octet-eq10 c more =
    let did = c.in_ok-end_line.ensures in
    looked_at_end c.args.self.now c.end_line.new.self c.index-octet.result.now more c.requires.next c.index-octet.ensures c.if-octet-eq10.true c.requires.none
    did.line did.order did.since (ap (λ p. drop c.end_line.new.self.from p.items) did.part.0 ∙ ap (λ n. drop n c.args.self.now.part.items) did.part.1)

pub returns : goal.returns
returns c more =
    let did = c.in_ok-lengthen.ensures in
    looked_at_other c.args.self.now c.lengthen.new.self c.index-octet.result.now more c.requires.next c.index-octet.ensures
    (ne_eqb c.index-octet.result.now 10 c.if-octet-eq10.false) c.requires.none (did.same.3 ∙ c.requires.none) did.same.2
    (ap (λ p. drop c.lengthen.new.self.from p.items) did.same.0 ∙ ap (λ n. drop n c.args.self.now.part.items) did.same.1) did.line
