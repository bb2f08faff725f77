use Rattle.std.proofs.Common.{ap, ◌∙◌, ◌++◌, List}
use Rattle.sdl_ast.specs.declared.tree.Join.{Join}
use Rattle.sdl_ast.specs.Views.{text_of}
use Rattle.sdl_measures.specs.JoinLists.{text_joins}
use Rattle.sdl_measures.proofs.Joining.{joins_are}
use Rattle.sdl_measures.proofs.joins.find_joins.Goals as goal

pub returns : goal.returns
returns c =
    let t = text_of c.args.transition.now in
    c.in_ok-push_joins.ensures ∙ ap (λ (l : List Join). l ++ text_joins t) c.new-joins.ensures.items ∙ joins_are t
