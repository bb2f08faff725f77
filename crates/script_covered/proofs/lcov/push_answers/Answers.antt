use Rattle.std.proofs.lemmas.Result.{on_ok_weaker}
use Rattle.script_covered.proofs.lcov.push_answers.Goals as goal

pub returns : goal.returns
returns c = on_ok_weaker c.push_to.result (λ told text are. told _ _ (c.in_ok-section.ensures text are)) c.push_to.ensures
