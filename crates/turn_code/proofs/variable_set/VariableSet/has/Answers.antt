use Rattle.std.proofs.Common.{◌<◌, ◌^◌, arith, rules, ltb-true}
use Rattle.turn_code.proofs.Masks.{none_above}
use Rattle.turn_code.proofs.variable_set.VariableSet.has.Goals as goal

pub returns-else-variable-lt32 : goal.returns-else-variable-lt32
returns-else-variable-lt32 c = (
  λ t. absurd (omega (arith, ltb-true c.args.variable.0 32 t)),
  λ h. let small : c.args.self.0 < 2 ^ 32 = search rules in
      absurd (none_above c.args.self.0 c.args.variable.0 small (omega arith) h),
)
