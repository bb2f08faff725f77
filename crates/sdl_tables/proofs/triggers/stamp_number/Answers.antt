use Rattle.std.proofs.Common.{◌++◌, List, map, arith, sym, ap, ◌∙◌, subst}
use Rattle.std.proofs.lemmas.List.{append-nil}
use Rattle.sdl_ast.specs.declared.expression.Identifier.{Identifier}
use Rattle.sdl_tables.specs.Scopes.{Marks, repeats}
use Rattle.sdl_tables.specs.Triggers.{Stamped}
use Rattle.sdl_tables.specs.declared.triggers.Trigger.{Trigger}
use Rattle.sdl_tables.proofs.Numbers.{taken_past, taken_at, numbered_in}
use Rattle.sdl_tables.proofs.triggers.stamp_number.Goals as goal

pub returns-in-None-clause-stamped : goal.returns-in-None-clause-stamped
returns-in-None-clause-stamped c = λ names before old all.
    subst (Stamped names c.args.seen.now.items c.args.stamp)
    (sym (ap (λ l. before ++ l) (taken_past c.args.parts.now c.args.number (omega (arith, c.in-None.ensures.lookup.3))) ∙ append-nil before)) old

pub returns-in-Some-clause-double : goal.returns-in-Some-clause-double
returns-in-Some-clause-double c = λ names before old all.
    let parts = c.args.parts.now in
    let v = c.in-Some.triggers.now in
    let lt = c.in-Some.ensures.lookup.3.0 in
    subst (λ (ids : List Identifier). Marks c.stamp_part.result (repeats before ids))
    (ap (map (λ (u : Trigger). u.id)) c.deref.ensures.value ∙ sym (taken_at parts c.args.number v lt c.in-Some.ensures.lookup.1))
    (c.stamp_part.ensures.double names before old (numbered_in names parts c.args.number v c.deref.result.now lt c.in-Some.ensures.lookup.1 c.deref.ensures.value all))

pub returns-in-Some-clause-stamped : goal.returns-in-Some-clause-stamped
returns-in-Some-clause-stamped c = λ names before old all.
    let parts = c.args.parts.now in
    let v = c.in-Some.triggers.now in
    let lt = c.in-Some.ensures.lookup.3.0 in
    subst (λ (ids : List Identifier). Stamped names c.stamp_part.new.seen.items c.args.stamp (before ++ ids))
    (ap (map (λ (u : Trigger). u.id)) c.deref.ensures.value ∙ sym (taken_at parts c.args.number v lt c.in-Some.ensures.lookup.1))
    (c.stamp_part.ensures.stamped names before old (numbered_in names parts c.args.number v c.deref.result.now lt c.in-Some.ensures.lookup.1 c.deref.ensures.value all))
