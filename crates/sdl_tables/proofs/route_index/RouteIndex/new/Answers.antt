use Rattle.std.proofs.Common.{◌≡◌, ◌∙◌, ◌+◌, ◌++◌, ◌∷◌, [], List, map, take, ap, sym, subst}
use Rattle.std.specs.List.{flat_map}
use Rattle.std.proofs.lemmas.List.{take_more}
use denote.Ref.{Bor}
use Rattle.sdl_ast.specs.declared.tree.Route.{Route}
use Rattle.sdl_ast.specs.declared.tree.Path.{Path}
use Rattle.sdl_ast.specs.Views.{path_of, route_of}
use Rattle.sdl_tables.specs.RouteIndexes.{mentions_of, Indexes}
use Rattle.sdl_tables.proofs.Mentions.{routes_more}
use Rattle.sdl_tables.proofs.route_index.RouteIndex.new.Goals as goal

pub loop-route-preserved : goal.loop-route-preserved
loop-route-preserved c =
    let rs = c.args.routes.now in
    let i = c.loop-route.route-index in
    let r = c.route-item.result in
    let done = take i rs in
    let before = flat_map mentions_of (flat_map (λ x. x.paths) (map (λ (x : Bor Route). route_of x.now) done)) in
    let more : take (i + 1) rs ≡ done ++ r ∷ [] = take_more rs i r c.loop-route-test.true ∙ ap (λ (y : Bor Route). done ++ y ∷ []) (sym c.route-item.is) in
    let all = ap (λ (ps : List Path). before ++ flat_map mentions_of (map path_of ps)) c.deref.ensures.value
    ∙ (sym (routes_more done r) ∙ ap (λ (l : List (Bor Route)). flat_map mentions_of (flat_map (λ x. x.paths) (map (λ x. route_of x.now) l))) (sym more)) in
    subst (Indexes c.add_paths.new.self) all (c.in_ok-add_paths.ensures before c.loop-route.invariant)
