use Rattle.std.proofs.Common.{sym, ap, ◌∙◌}
use Rattle.std.specs.Prelude.{slice_set}
use Rattle.script_covered.proofs.Countings.{more, counted_again, counted_first}
use Rattle.script_covered.proofs.coverage.TurnCounts.count.Goals as goal

pub returns-in_ok-again-in-Some : goal.returns-in_ok-again-in-Some
returns-in_ok-again-in-Some c =
    ap (slice_set c.args.self.now.turns.items c.in-Some.number) c.in_ok-again-in-Some.ensures
    ∙ (ap (λ known. slice_set c.args.self.now.turns.items c.in-Some.number (more known)) c.index.ensures
    ∙ counted_again c.args.process c.args.state c.args.input c.args.self.now.turns.items c.in-Some.number c.index.result.now (sym c.in-Some.ensures.first))

pub returns-in_ok-push-in-None : goal.returns-in_ok-push-in-None
returns-in_ok-push-in-None c =
    c.in_ok-push-in-None.ensures.items ∙ counted_first c.args.process c.args.state c.args.input c.args.self.now.turns.items (sym c.in-None.ensures.first)
