use Rattle.std.proofs.Common.{◌≡◌, ◌+◌, ◌≤◌, ◌++◌, length, drop}
use Rattle.std.specs.List.{sum_by}
use Rattle.sdl_emit.specs.Scopes.{scope_in, places_by}
use Rattle.sdl_meaning.specs.Code.{size_at, connections_code}
use Rattle.sdl_emit.proofs.texts.emit_connections.Given as goal

abbrev pub invariant-loop-number : goal.invariant-loop-number
invariant-loop-number l = record {
  code : l.code.items ++ connections_code (scope_in l.names) (places_by l.places) (length l.code.items) (drop l.number-index l.numbers) ≡ l.initial.code.items ++ connections_code (scope_in l.names) (places_by l.places) (length l.initial.code.items) l.numbers;
  fits : length l.code.items + sum_by (size_at (scope_in l.names)) (drop l.number-index l.numbers) ≤ 512;
}
