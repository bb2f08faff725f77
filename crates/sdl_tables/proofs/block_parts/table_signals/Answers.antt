use Rattle.std.proofs.Common.{◌≡◌, ◌∙◌, ap, subst, map, [], List}
use Rattle.std.specs.List.{flat_map}
use Rattle.sdl_ast.specs.Views.{block_of, entity_of, signal_of}
use Rattle.sdl_ast.specs.declared.expression.Identifier.{Identifier}
use Rattle.sdl_tables.specs.Names.{signals_in, signals_of, signal_names, names_once}
use Rattle.sdl_tables.specs.Scopes.{Marks, repeats}
use Rattle.sdl_tables.proofs.BlockLemmas.{signal_ids-of_rows}
use Rattle.sdl_tables.proofs.block_parts.table_signals.Goals as goal

pub returns-clause-rows : goal.returns-clause-rows
returns-clause-rows c =
    c.in_ok-rows.ensures ∙ ap (λ es. flat_map signals_in (map entity_of es)) c.deref.ensures.value

pub returns-clause-names : goal.returns-clause-names
returns-clause-names c =
    let b = block_of c.args.block.now in
    let rows : map (λ r. signal_of r.now) c.in_ok-rows.rows.items ≡ signals_of b =
    c.in_ok-rows.ensures ∙ ap (λ es. flat_map signals_in (map entity_of es)) c.deref.ensures.value in
    let named : c.deref-3.result.now ≡ signal_names b =
    signal_ids-of_rows b c.in_ok-rows.rows.items c.deref-3.result.now rows
    (c.deref-3.ensures.value ∙ (c.in_ok-ids.ensures ∙ ap (map (λ s. s.now.name)) c.deref-2.ensures.value)) in
    c.in_ok-names.ensures.names ∙ ap names_once named

pub returns-clause-double : goal.returns-clause-double
returns-clause-double c =
    let b = block_of c.args.block.now in
    let rows : map (λ r. signal_of r.now) c.in_ok-rows.rows.items ≡ signals_of b =
    c.in_ok-rows.ensures ∙ ap (λ es. flat_map signals_in (map entity_of es)) c.deref.ensures.value in
    let named : c.deref-3.result.now ≡ signal_names b =
    signal_ids-of_rows b c.in_ok-rows.rows.items c.deref-3.result.now rows
    (c.deref-3.ensures.value ∙ (c.in_ok-ids.ensures ∙ ap (map (λ s. s.now.name)) c.deref-2.ensures.value)) in
    subst (λ (ids : List Identifier). Marks c.in_ok-names.field-0.double (repeats [] ids)) named c.in_ok-names.ensures.double
