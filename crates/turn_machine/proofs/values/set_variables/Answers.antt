use Rattle.std.proofs.Common.{◌<◌, length, arith}
use Rattle.turn_machine.proofs.Worded.{told_more}
use Rattle.turn_machine.proofs.values.set_variables.Goals as goal

pub loop-number-preserved : goal.loop-number-preserved
loop-number-preserved c = (
  omega (arith, c.push.ensures.len, c.loop-number.invariant.0),
  λ vs long are.
      let less : c.loop-number.number < length vs = omega arith in
      told_more vs c.loop-number.variables.items c.push.new.self.items c.loop-number.number c.variable_of-value.result less
      (c.loop-number.invariant.1 vs long are) c.push.ensures.items (λ o e. c.variable_of-value.ensures o (are c.loop-number.number o e)),
)
