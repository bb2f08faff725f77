use Rattle.std.proofs.Common.{◌≡◌, ◌∙◌, ap, subst, map, [], List}
use Rattle.std.specs.List.{flat_map}
use Rattle.sdl_ast.specs.Plain.{PlainRoute}
use Rattle.sdl_ast.specs.Views.{block_of, entity_of, route_of}
use Rattle.sdl_ast.specs.declared.expression.Identifier.{Identifier}
use Rattle.sdl_tables.specs.Names.{routes_in, routes_of, route_names}
use Rattle.sdl_tables.specs.RouteIndexes.{mentions_of, Indexes}
use Rattle.sdl_tables.specs.Scopes.{Marks, repeats}
use Rattle.sdl_tables.proofs.BlockLemmas.{route_ids-of_rows}
use Rattle.sdl_tables.proofs.block_parts.table_routes.Goals as goal

pub returns-clause-rows : goal.returns-clause-rows
returns-clause-rows c =
    c.in_ok-rows.ensures ∙ ap (λ es. flat_map routes_in (map entity_of es)) c.deref.ensures.value

pub returns-clause-index : goal.returns-clause-index
returns-clause-index c =
    let rows : map (λ r. route_of r.now) c.in_ok-rows.rows.items ≡ routes_of (block_of c.args.block.now) =
    c.in_ok-rows.ensures ∙ ap (λ es. flat_map routes_in (map entity_of es)) c.deref.ensures.value in
    subst (λ (rs : List PlainRoute). Indexes c.in_ok-index.index (flat_map mentions_of (flat_map (λ r. r.paths) rs)))
    (ap (map (λ r. route_of r.now)) c.deref-4.ensures.value ∙ rows) c.in_ok-index.ensures

pub returns-clause-double : goal.returns-clause-double
returns-clause-double c =
    let b = block_of c.args.block.now in
    let rows : map (λ r. route_of r.now) c.in_ok-rows.rows.items ≡ routes_of b =
    c.in_ok-rows.ensures ∙ ap (λ es. flat_map routes_in (map entity_of es)) c.deref.ensures.value in
    let named : c.deref-3.result.now ≡ route_names b =
    route_ids-of_rows b c.in_ok-rows.rows.items c.deref-3.result.now rows
    (c.deref-3.ensures.value ∙ (c.in_ok-ids.ensures ∙ ap (map (λ r. r.now.name)) c.deref-2.ensures.value)) in
    subst (λ (ids : List Identifier). Marks c.in_ok-scope.scope.double (repeats [] ids)) named c.in_ok-scope.ensures.double
