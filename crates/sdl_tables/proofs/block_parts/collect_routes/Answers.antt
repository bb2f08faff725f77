use Rattle.std.proofs.Common.{[], ◌++◌, map, ap, sym, ◌∙◌}
use denote.Ref.{Bor}
use Rattle.sdl_ast.specs.declared.tree.Route as the_route
use Rattle.sdl_ast.specs.Views.{entity_of, route_of}
use Rattle.sdl_tables.specs.Names.{routes_in}
use Rattle.sdl_tables.proofs.Growing.{join_on, join_nothing, pushed}
use Rattle.sdl_tables.proofs.block_parts.collect_routes.Goals as goal
use Rattle.sdl_tables.proofs.block_parts.collect_routes.Goals.{in-Signals, in-Route+in_ok-push-in-Route, in-Connect, in-Synonyms, in-Process}
use Rattle.plain_laws.proofs.Lists.{mapped_more}

pub loop-entity-preserved : goal.loop-entity-preserved
loop-entity-preserved c =
    let more = mapped_more entity_of c.args.entities.now c.loop-entity.entity-index c.entity-item.result c.loop-entity-test.true c.entity-item.is in
    elim c.match-entity.branch [
      | in-Signals w ↦
          join_nothing routes_in [] _ _ _ _ _ more c.loop-entity.invariant (ap (λ v. map (λ (r : Bor the_route.Route). route_of r.now) v.items) w.rows-is) (ap (λ d. routes_in (entity_of d)) w.in-Signals.is)
      | in-Route+in_ok-push-in-Route w ↦
          join_on routes_in [] _ _ _ _ _ more c.loop-entity.invariant (ap (λ v. map (λ (r : Bor the_route.Route). route_of r.now) v.items) w.rows-is ∙ (pushed (λ (r : Bor the_route.Route). route_of r.now) _ _ _ w.in_ok-push-in-Route.ensures.items ∙ ap (λ l. map (λ (r : Bor the_route.Route). route_of r.now) c.loop-entity.rows.items ++ l) (sym (ap (λ d. routes_in (entity_of d)) w.in-Route.is))))
      | in-Connect w ↦
          join_nothing routes_in [] _ _ _ _ _ more c.loop-entity.invariant (ap (λ v. map (λ (r : Bor the_route.Route). route_of r.now) v.items) w.rows-is) (ap (λ d. routes_in (entity_of d)) w.in-Connect.is)
      | in-Synonyms w ↦
          join_nothing routes_in [] _ _ _ _ _ more c.loop-entity.invariant (ap (λ v. map (λ (r : Bor the_route.Route). route_of r.now) v.items) w.rows-is) (ap (λ d. routes_in (entity_of d)) w.in-Synonyms.is)
      | in-Process w ↦
          join_nothing routes_in [] _ _ _ _ _ more c.loop-entity.invariant (ap (λ v. map (λ (r : Bor the_route.Route). route_of r.now) v.items) w.rows-is) (ap (λ d. routes_in (entity_of d)) w.in-Process.is)
    ]
