use Rattle.std.proofs.Common.{sym, subst}
use Rattle.sdl_ast.specs.Views.{tree_of, process_of}
use Rattle.sdl_tables.specs.Names.{variables_of}
use Rattle.sdl_tables.specs.Scopes.{Marks}
use Rattle.sdl_sound.specs.Sorts.{wrong_parameter}
use Rattle.sdl_scopes.proofs.Pairs.{nothing_beside, beside_mapped}
use Rattle.sdl_scopes.proofs.operands.wrong_parameters.Goals as goal

pub loop-number-init : goal.loop-number-init
loop-number-init c = nothing_beside (wrong_parameter (variables_of (process_of c.args.process.now))) c.args.sorts.now

pub loop-number-preserved : goal.loop-number-preserved
loop-number-preserved c =
    let more = c.earlier-place.ensures _ _ c.loop-number.invariant c.wrong_parameter.ensures in
    subst (Marks c.earlier-place.result)
    (sym (beside_mapped (wrong_parameter (variables_of (process_of c.args.process.now))) c.args.sorts.now tree_of c.args.parameters.now c.loop-number.number
    c.index-parameters-number.result c.loop-number-test.true c.index-parameters-number.is)) more
