use Rattle.std.proofs.Common.{◌≡◌, List, Option, None, Some, refl, sym, ap, ◌∙◌}
use Rattle.std.specs.Prelude.{slice_get}
use Rattle.std.specs.Option.{option_map_or, option_and_then}
use Rattle.sdl_ast.specs.declared.expression.Identifier.{Identifier}
use Rattle.sdl_tables.specs.Names.{number_of}
use Rattle.sdl_ast.specs.Views.{process_of}
use Rattle.sdl_unset.specs.Fates.{timer_named}
use Rattle.sdl_sound.proofs.Numbered.{folded_same}
use Rattle.sdl_unset.proofs.Bits.{own_name}
use Rattle.sdl_unset.proofs.spelled.timer_name.Goals as goal

pub returns-in-Some-clause-same : goal.returns-in-Some-clause-same
returns-in-Some-clause-same c =
    own_name c.timers-timers.result.now c.args.name c.in-Some.number c.name.result (sym c.in-Some.ensures.number) c.name.ensures

pub returns-in-Some-clause-declared : goal.returns-in-Some-clause-declared
returns-in-Some-clause-declared c =
    let p = process_of c.args.table.now in
    let x = c.args.name in
    let ids = c.timers-timers.result.now in
    let timer : timer_named p x ≡ Some c.name.result =
    ap (λ (l : List Identifier). option_and_then (slice_get l) (number_of l x)) (sym c.timers-timers.ensures)
    ∙ (ap (option_and_then (slice_get ids)) (sym c.in-Some.ensures.number) ∙ c.name.ensures) in
    sym (ap (λ (o : Option Identifier). option_map_or (λ (id : Identifier). id.name) o x) timer)

pub returns-in-None-clause-same : goal.returns-in-None-clause-same
returns-in-None-clause-same c = folded_same c.args.name c.args.name refl

pub returns-in-None-clause-declared : goal.returns-in-None-clause-declared
returns-in-None-clause-declared c =
    let p = process_of c.args.table.now in
    let x = c.args.name in
    let ids = c.timers-timers.result.now in
    let timer : timer_named p x ≡ None =
    ap (λ (l : List Identifier). option_and_then (slice_get l) (number_of l x)) (sym c.timers-timers.ensures)
    ∙ ap (option_and_then (slice_get ids)) (sym c.in-None.ensures.number) in
    sym (ap (λ (o : Option Identifier). option_map_or (λ (id : Identifier). id.name) o x) timer)
