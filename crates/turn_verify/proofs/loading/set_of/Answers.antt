use Rattle.std.proofs.lemmas.Result.{IfOk-weaker, IfErr-weaker}
use Rattle.turn_verify.proofs.loading.set_of.Goals as goal

pub returns-in-Ok-clause-sound : goal.returns-in-Ok-clause-sound
returns-in-Ok-clause-sound c = IfOk-weaker c.set_meant.result _ _ (λ v h. h _ c.in-Ok.ensures) c.set_meant.ensures.sound

pub returns-in-Ok-clause-matches : goal.returns-in-Ok-clause-matches
returns-in-Ok-clause-matches c = IfOk-weaker c.set_meant.result _ _ (λ v h. h _ c.in-Ok.ensures) c.set_meant.ensures.matches

pub returns-in-Ok-clause-runs : goal.returns-in-Ok-clause-runs
returns-in-Ok-clause-runs c = IfOk-weaker c.set_meant.result _ _ (λ v h. h _ c.in-Ok.ensures) c.set_meant.ensures.runs

pub returns-in-Ok-clause-set : goal.returns-in-Ok-clause-set
returns-in-Ok-clause-set c = IfOk-weaker c.set_meant.result _ _ (λ v h. h _ c.in-Ok.ensures) c.set_meant.ensures.set

pub returns-in-Ok-clause-exact : goal.returns-in-Ok-clause-exact
returns-in-Ok-clause-exact c sound = c.set_meant.ensures.exact _ c.in-Ok.ensures sound

pub returns-in-Ok-clause-refused : goal.returns-in-Ok-clause-refused
returns-in-Ok-clause-refused c = IfErr-weaker c.set_meant.result _ _ (λ e h ts written. h _ ts c.in-Ok.ensures written) c.set_meant.ensures.refused
