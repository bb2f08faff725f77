use Rattle.std.proofs.Common.{map, ap, ◌∙◌, List}
use Rattle.sdl_ast.specs.declared.tree.Declaration.{Declaration}
use Rattle.sdl_ast.specs.declared.tree.StatePart.{StatePart}
use Rattle.sdl_ast.specs.declared.tree.Connection.{Connection}
use Rattle.sdl_ast.specs.Views.{declaration_of, state_of, connection_of}
use Rattle.sdl_rules.specs.Expansion.{expanded_declaration, expanded_state, expanded_connection}
use Rattle.sdl_rules.specs.Views.{sight_of}
use Rattle.sdl_rules.proofs.Copying.{process_is}
use Rattle.sdl_rules.proofs.processes.expand_process.Goals as goal

pub returns : goal.returns
returns c =
    let s = sight_of c.args.sight.now in
    process_is _ _ _ _ _ _ _ _ _ _
    (c.in_ok-declarations.ensures ∙ ap (λ (l : List Declaration). map (expanded_declaration s) (map declaration_of l)) c.deref.ensures.value)
    c.in_ok-start.ensures
    (c.in_ok-states.ensures ∙ ap (λ (l : List StatePart). map (expanded_state s) (map state_of l)) c.deref-3.ensures.value)
    (c.in_ok-connections.ensures ∙ ap (λ (l : List Connection). map (expanded_connection s) (map connection_of l)) c.deref-2.ensures.value)
