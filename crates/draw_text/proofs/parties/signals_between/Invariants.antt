use Rattle.std.proofs.Common.{◌≡◌, drop, fold, map, []}
use Rattle.std.specs.List.{flat_map}
use Rattle.sdl_tables.specs.Names.{add_name}
use Rattle.sdl_ast.specs.Views.{route_of}
use Rattle.draw_text.specs.BlockEdges.{route_signals}
use Rattle.draw_text.proofs.parties.signals_between.Given as goal

abbrev pub invariant-loop-route : goal.invariant-loop-route
invariant-loop-route l = fold add_name l.names.items (flat_map (route_signals l.from l.to) (map (λ r. route_of r.now) (drop l.route-index l.route-items))) ≡ fold add_name [] (flat_map (route_signals l.from l.to) (map (λ r. route_of r.now) l.route-items))
