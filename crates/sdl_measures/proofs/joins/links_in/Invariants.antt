use Rattle.std.proofs.Common.{◌≡◌, ◌<◌, length, take, map}
use Rattle.std.specs.Prelude.{All}
use Rattle.sdl_ast.specs.Views.{connection_of}
use Rattle.sdl_sound.specs.Statements.{joins_of}
use Rattle.sdl_measures.specs.Links.{graph_in}
use Rattle.sdl_sound.specs.Orders.{joins_in}
use Rattle.sdl_measures.proofs.joins.links_in.Given as goal

abbrev pub invariant-loop-connection : goal.invariant-loop-connection
invariant-loop-connection l = record {
  links : graph_in l.links.items ≡ map (λ c. joins_in l.connectors (joins_of c.text)) (map connection_of (take l.connection-index l.connections));
  within : All (λ ts. All (λ n. n < length l.connectors) ts) (graph_in l.links.items);
}
