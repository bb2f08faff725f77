use Rattle.std.proofs.Common.{Option, [], ap, sym, subst}
use Rattle.std.specs.Option.{option_map_or}
use Rattle.std.proofs.lemmas.Option.{slice_get-get_or, slice_get_past}
use Rattle.sdl_ast.specs.Views.{process_of}
use Rattle.sdl_ast.specs.declared.tree.Sort.{Sort}
use Rattle.sdl_tables.specs.Names.{variables_of}
use Rattle.sdl_tables.specs.Scopes.{Marks}
use Rattle.sdl_sound.specs.Sorts.{wrong_place}
use Rattle.sdl_scopes.proofs.values.wrong_place_at.Goals as goal

pub returns-then-number-sorts : goal.returns-then-number-sorts
returns-then-number-sorts c =
    subst (λ (o : Option Sort). Marks c.wrong_place.result (option_map_or (λ want. wrong_place (variables_of (process_of c.args.process.now)) (want, c.args.place)) o []))
    (sym (slice_get-get_or c.args.sorts.now c.args.number _ c.if-number-sorts.true)) c.wrong_place.ensures

pub returns-else-number-sorts : goal.returns-else-number-sorts
returns-else-number-sorts c =
    ap (λ (o : Option Sort). option_map_or (λ want. wrong_place (variables_of (process_of c.args.process.now)) (want, c.args.place)) o [])
    (slice_get_past c.args.sorts.now c.args.number c.if-number-sorts.false)
