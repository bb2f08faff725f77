use Rattle.std.proofs.Common.{ℕ, ap}
use Rattle.std.proofs.lemmas.Bool.{eqb-true}
use Rattle.turn_code.specs.declared.variable_set.VariableSet.{VariableSet}
use Rattle.sdl_compile.specs.Reads.{everything}
use Rattle.sdl_compile.proofs.entries.is_everything.Goals as goal

set_of : ℕ → VariableSet
set_of n = record { 0 = n }

pub returns : goal.returns
unfolding everything set_of
returns c = λ is. ap set_of (eqb-true c.args.set.0 4294967295 is)
