use Rattle.std.proofs.Common.{◌≡◌, ◌∙◌, ap, subst, map, [], List}
use Rattle.std.specs.List.{flat_map}
use Rattle.sdl_ast.specs.Views.{process_of, declaration_of}
use Rattle.sdl_ast.specs.declared.expression.Identifier.{Identifier}
use Rattle.sdl_tables.specs.Names.{variable_names, variables_of, names_once, declared_variables}
use Rattle.sdl_tables.specs.Rows.{variable_of}
use Rattle.sdl_tables.specs.Scopes.{Marks, repeats}
use Rattle.sdl_tables.proofs.ProcessTables.{ids-of_rows}
use Rattle.sdl_tables.proofs.process_table.index_variables.Goals as goal

pub returns-clause-names : goal.returns-clause-names
returns-clause-names c =
    let p = process_of c.args.process.now in
    let rows : map variable_of c.in_ok-rows.rows.items ≡ variables_of p =
    c.in_ok-rows.ensures ∙ ap (λ ds. flat_map declared_variables (map declaration_of ds)) c.deref.ensures.value in
    let named : c.deref-3.result.now ≡ variable_names p =
    ids-of_rows p c.in_ok-rows.rows.items c.deref-3.result.now rows
    (c.deref-3.ensures.value ∙ (c.in_ok-ids.ensures ∙ ap (map (λ row. row.name)) c.deref-2.ensures.value)) in
    c.in_ok-names.ensures.names ∙ ap names_once named

pub returns-clause-rows : goal.returns-clause-rows
returns-clause-rows c =
    c.in_ok-rows.ensures ∙ ap (λ ds. flat_map declared_variables (map declaration_of ds)) c.deref.ensures.value

pub returns-clause-double : goal.returns-clause-double
returns-clause-double c =
    let p = process_of c.args.process.now in
    let rows : map variable_of c.in_ok-rows.rows.items ≡ variables_of p =
    c.in_ok-rows.ensures ∙ ap (λ ds. flat_map declared_variables (map declaration_of ds)) c.deref.ensures.value in
    let named : c.deref-3.result.now ≡ variable_names p =
    ids-of_rows p c.in_ok-rows.rows.items c.deref-3.result.now rows
    (c.deref-3.ensures.value ∙ (c.in_ok-ids.ensures ∙ ap (map (λ row. row.name)) c.deref-2.ensures.value)) in
    subst (λ (ids : List Identifier). Marks c.in_ok-names.field-0.double (repeats [] ids)) named c.in_ok-names.ensures.double
