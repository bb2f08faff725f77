use Rattle.std.proofs.Common.{◌∙◌, ◌++◌, ◌∷◌, [], List, ap, refl}
use Rattle.sdl_ast.specs.declared.tree.Party.{Party}
use Rattle.indexmap.specs.IndexMap.{get}
use Rattle.sdl_tables.specs.RouteIndexes.{same_end}
use Rattle.sdl_tables.proofs.RouteKeys.{first_held}
use Rattle.sdl_tables.proofs.route_index.Ends.begin.Goals as goal

pub returns : goal.returns
returns c = λ k.
    first_held (get same_end c.args.self.now.lists) c.args.key k c.push.new.self c.args.other (get same_end c.insert.new.self k)
    c.requires (c.in_ok-push.ensures.items ∙ ap (λ (l : List Party). l ++ c.args.other ∷ []) c.new-list.ensures.items) (same_end c.args.key k) refl (c.in_ok-insert.ensures.updates.0 k)
