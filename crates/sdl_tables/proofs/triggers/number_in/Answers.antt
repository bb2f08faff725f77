use Rattle.std.proofs.Common.{◌≡◌, ◌++◌, ◌∷◌, [], List, Some, None, sym, ap, ◌∙◌}
use Rattle.sdl_ast.specs.declared.expression.Identifier.{Identifier}
use Rattle.sdl_tables.specs.Names.{number_of}
use Rattle.sdl_tables.proofs.Tables.{add_name-new}
use Rattle.sdl_tables.proofs.Numbers.{number_new, is_absent}
use Rattle.sdl_tables.proofs.triggers.number_in.Goals as goal

pub returns-in_ok-add-in-None-clause-number : goal.returns-in_ok-add-in-None-clause-number
returns-in_ok-add-in-None-clause-number c =
    let names = c.args.names.now in
    let id = c.args.id in
    let absent : number_of names id.name ≡ None = sym c.number.ensures.number ∙ c.in-None.is in
    let grown : c.add.new.self ≡ names ++ id ∷ [] = c.in_ok-add-in-None.ensures.ids ∙ add_name-new names id (is_absent names id.name absent) in
    ap (λ (ids : List Identifier). number_of ids id.name) grown ∙ (number_new names id absent ∙ ap Some (sym c.len-number.ensures))
