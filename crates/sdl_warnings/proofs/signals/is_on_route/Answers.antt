use Rattle.std.proofs.Common.{ap, ◌∙◌, map, take_all}
use Rattle.std.specs.List.{list_any, flat_map}
use Rattle.sdl_ast.specs.Plain.{PlainPath, PlainRoute}
use Rattle.sdl_ast.specs.Views.{route_of}
use Rattle.sdl_tables.specs.Names.{is_in}
use Rattle.std.specs.Borrow.{Bor}
use Rattle.sdl_ast.specs.declared.tree.Route.{Route}
use Rattle.sdl_warnings.proofs.signals.is_on_route.Goals as goal

pub returns : goal.returns
returns c =
    c.loop-route.invariant
    ∙ ap (λ l. list_any (λ (path : PlainPath). is_in path.signals c.args.signal) (flat_map (λ (r : PlainRoute). r.paths) (map (λ (r : Bor Route). route_of r.now) l))) (take_all c.loop-route.route-index c.args.routes.now c.loop-route-test.false)
