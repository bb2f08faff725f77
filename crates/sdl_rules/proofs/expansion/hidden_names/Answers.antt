use Rattle.std.proofs.Common.{List, [], map, ap, ◌∙◌, subst}
use Rattle.std.specs.List.{flat_map}
use Rattle.std.proofs.lemmas.Result.{IfOk-weaker}
use Rattle.sdl_ast.specs.declared.expression.Identifier.{Identifier}
use Rattle.sdl_ast.specs.declared.tree.Declaration.{Declaration}
use Rattle.sdl_ast.specs.Views.{declaration_of}
use Rattle.sdl_tables.specs.Names.{names_once}
use Rattle.sdl_tables.specs.Scopes.{Marks, repeats}
use Rattle.sdl_rules.specs.Expansion.{names_declared}
use Rattle.sdl_rules.proofs.expansion.hidden_names.Goals as goal

pub returns-clause-names : goal.returns-clause-names
returns-clause-names c =
    let named = c.deref-2.ensures.value
    ∙ (c.in_ok-names.ensures ∙ ap (λ (l : List Declaration). flat_map names_declared (map declaration_of l)) c.deref.ensures.value) in
    IfOk-weaker c.index_names.result _ _ (λ s h. h ∙ ap names_once named) c.index_names.ensures.names

pub returns-clause-double : goal.returns-clause-double
returns-clause-double c =
    let named = c.deref-2.ensures.value
    ∙ (c.in_ok-names.ensures ∙ ap (λ (l : List Declaration). flat_map names_declared (map declaration_of l)) c.deref.ensures.value) in
    IfOk-weaker c.index_names.result _ _ (λ s h. subst (λ (ids : List Identifier). Marks s.double (repeats [] ids)) named h) c.index_names.ensures.double
