use Rattle.std.proofs.Common.{arith, subst}
use Rattle.sdl_ast.specs.Views.{process_of}
use Rattle.sdl_unset.specs.Fates.{IsStep}
use Rattle.sdl_unset.proofs.Searches.{states_count}
use Rattle.sdl_unset.proofs.spelled.named_step.Goals as goal

pub named_input-requires-clause-within : goal.named_input-requires-clause-within
named_input-requires-clause-within c =
    let p = process_of c.args.table.now in
    let step = subst (IsStep p) c.in-Input.is c.requires.step in
    omega (arith, states_count p c.args.inputs.now c.requires.inputs, step.0)
