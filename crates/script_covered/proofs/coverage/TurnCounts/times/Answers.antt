use Rattle.std.proofs.Common.{sym, ap, ◌∙◌}
use Rattle.script_covered.proofs.Countings.{known_there, known_nowhere}
use Rattle.script_covered.proofs.coverage.TurnCounts.times.Goals as goal

pub returns-in-Some : goal.returns-in-Some
returns-in-Some c =
    ap (λ t. t.times) c.index.ensures
    ∙ known_there c.args.process c.args.state c.args.input c.args.self.now.turns.items c.in-Some.number c.index.result.now (sym c.in-Some.ensures.first)

pub returns-in-None : goal.returns-in-None
returns-in-None c = known_nowhere c.args.process c.args.state c.args.input c.args.self.now.turns.items (sym c.in-None.ensures.first)
