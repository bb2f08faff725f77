use Rattle.std.proofs.Common.{◌≡◌, drop, fold, map}
use Rattle.std.specs.List.{flat_map}
use Rattle.sdl_tables.specs.Names.{add_name}
use Rattle.sdl_ast.specs.Views.{path_of}
use Rattle.draw_text.specs.BlockEdges.{path_signals}
use Rattle.draw_text.proofs.parties.add_route.Given as goal

abbrev pub invariant-loop-path : goal.invariant-loop-path
invariant-loop-path l = fold add_name l.names.items (flat_map (path_signals l.from l.to) (map path_of (drop l.path-index l.path-items))) ≡ fold add_name l.initial.names.items (flat_map (path_signals l.from l.to) (map path_of l.path-items))
