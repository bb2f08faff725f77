use Rattle.std.proofs.Common.{sym, subst}
use Rattle.sdl_ast.specs.Views.{process_of}
use Rattle.sdl_tables.specs.Names.{variables_of}
use Rattle.sdl_tables.specs.Scopes.{Marks}
use Rattle.sdl_sound.specs.Sorts.{wrong_place}
use Rattle.sdl_scopes.proofs.Pairs.{nothing_beside, beside_taken}
use Rattle.sdl_scopes.proofs.values.wrong_places.Goals as goal

pub loop-number-init : goal.loop-number-init
loop-number-init c = nothing_beside (wrong_place (variables_of (process_of c.args.process.now))) c.args.sorts.now

pub loop-number-preserved : goal.loop-number-preserved
loop-number-preserved c =
    let more = c.earlier-found.ensures _ _ c.loop-number.invariant c.wrong_place_at.ensures in
    subst (Marks c.earlier-found.result)
    (sym (beside_taken (wrong_place (variables_of (process_of c.args.process.now))) c.args.sorts.now c.args.places.now c.loop-number.number
    c.index-places-number.result c.loop-number-test.true c.index-places-number.is)) more
