use Rattle.std.proofs.Common.{map, arith, sym, ap, ◌∙◌, subst}
use Rattle.sdl_ast.specs.declared.expression.Identifier.{Identifier}
use Rattle.sdl_tables.specs.Scopes.{Marks}
use Rattle.sdl_tables.specs.declared.triggers.Trigger.{Trigger}
use Rattle.sdl_tables.proofs.States.{map-map}
use Rattle.sdl_tables.proofs.Numbers.{taken_past, taken_at}
use Rattle.sdl_tables.proofs.triggers.first_of.Goals as goal

pub returns-in-None : goal.returns-in-None
returns-in-None c =
    ap (map (λ (id : Identifier). id.at)) (taken_past c.args.parts.now c.args.number (omega (arith, c.in-None.ensures.lookup.3)))

pub returns-in-Some : goal.returns-in-Some
returns-in-Some c =
    let parts = c.args.parts.now in
    let v = c.in-Some.triggers.now in
    subst (Marks c.first_at.result)
    (ap (map (λ (t : Trigger). t.id.at)) c.deref.ensures.value
    ∙ (sym (map-map (λ (id : Identifier). id.at) (λ (t : Trigger). t.id) v.items)
    ∙ ap (map (λ (id : Identifier). id.at)) (sym (taken_at parts c.args.number v c.in-Some.ensures.lookup.3.0 c.in-Some.ensures.lookup.1))))
    c.first_at.ensures
