use Rattle.std.proofs.Common.{sym, ap, ◌∙◌}
use Rattle.std.specs.Prelude.{slice_set}
use Rattle.script_play.proofs.Throwing.{more, counted_again, counted_first}
use Rattle.script_play.proofs.thrown.Thrown.count.Goals as goal

pub returns-in_ok-again-in-Some : goal.returns-in_ok-again-in-Some
returns-in_ok-again-in-Some c =
    ap (slice_set c.args.self.now.throws.items c.in-Some.number) c.in_ok-again-in-Some.ensures
    ∙ (ap (λ known. slice_set c.args.self.now.throws.items c.in-Some.number (more known)) c.index.ensures
    ∙ counted_again c.args.throw c.args.self.now.throws.items c.in-Some.number c.index.result.now (sym c.in-Some.ensures.first))

pub returns-in_ok-push-in-None : goal.returns-in_ok-push-in-None
returns-in_ok-push-in-None c = c.in_ok-push-in-None.ensures.items ∙ counted_first c.args.throw c.args.self.now.throws.items (sym c.in-None.ensures.first)
