use Rattle.std.proofs.Common.{◌≡◌, ◌<◌, length, take}
use Rattle.std.specs.Prelude.{All}
use Rattle.sdl_sound.specs.Orders.{joins_in}
use Rattle.sdl_measures.proofs.joins.find_targets.Given as goal

abbrev pub invariant-loop-join : goal.invariant-loop-join
invariant-loop-join l = record {
  targets : l.targets.items ≡ joins_in l.connectors (take l.join-index l.joins);
  within : All (λ n. n < length l.connectors) l.targets.items;
}
