use Rattle.std.proofs.Common.{map, ap, ◌∙◌, List}
use Rattle.sdl_ast.specs.declared.tree.Path.{Path}
use Rattle.sdl_ast.specs.Plain.{PlainPath, PlainRoute}
use Rattle.sdl_ast.specs.Views.{path_of}
use Rattle.sdl_rules.proofs.copies.copy_route.Goals as goal

pub returns : goal.returns
returns c =
    let make : List PlainPath → PlainRoute = λ l. record { name = c.args.given.now.name; paths = l } in
    ap make (c.in_ok-copy_paths.ensures ∙ ap (λ (l : List Path). map path_of l) c.deref.ensures.value)
