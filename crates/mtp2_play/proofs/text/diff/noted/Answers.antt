use Rattle.std.proofs.Common.{ℕ, List, subst}
use Rattle.std.proofs.lemmas.Result.{IfOk-weaker}
use Rattle.draw_sets.specs.Noting.{AreNoted}
use Rattle.mtp2_play.proofs.text.diff.noted.Goals as goal

pub returns : goal.returns
returns c =
    IfOk-weaker c.with_statements.result _ _ (λ v h. subst (λ (ls : List ℕ). AreNoted ls v.items) c.deref.ensures.value h) c.with_statements.ensures
