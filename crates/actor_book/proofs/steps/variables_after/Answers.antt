use Rattle.std.proofs.Common.{◌≤◌, length, subst, arith}
use Rattle.turn_machine.specs.Turn.{Turn, IsRunnable}
use Rattle.actor_book.proofs.Ending.{few_variables}
use Rattle.actor_book.proofs.steps.variables_after.Goals as goal

pub returns-clause-few : goal.returns-clause-few
returns-clause-few c =
    let able = subst (λ (t : Turn). IsRunnable t) c.job.ensures c.input_variables-few.ensures.runnable in
    let given : length c.job.result.now.input.variables.items ≤ 32 =
    omega (arith, c.input_variables-few.ensures.value, c.input_variables-few.ensures.few) in
    let few : length c.args.done.now.input.variables.items ≤ 32 =
    subst (λ (t : Turn). length t.input.variables.items ≤ 32) c.job.ensures given in
    few_variables c.run_law.ensures c.args.done.now _ able c.variables.ensures few
