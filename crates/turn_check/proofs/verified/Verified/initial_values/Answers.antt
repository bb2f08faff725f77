use Rattle.std.proofs.Common.{◌≤◌, length, subst, sym}
use Rattle.turn_code.specs.declared.draft.DraftVariable.{DraftVariable}
use Rattle.std.specs.Prelude.{List}
use Rattle.turn_check.proofs.NameLists.{few_variables_at}
use Rattle.turn_check.proofs.verified.Verified.initial_values.Goals as goal

pub initial_values_of-requires : goal.initial_values_of-requires
initial_values_of-requires c =
    subst (λ (xs : List DraftVariable). length xs ≤ 32) (sym c.variables.ensures) (few_variables_at c.args.self.now c.args.process.0 c.draft.ensures.valid)
