use Rattle.std.proofs.Common.{◌≡◌, map, take, min, length}
use Rattle.std.specs.Prelude.{sum_by}
use Rattle.sdl_sound.specs.Longest.{pieces_of}
use Rattle.sdl_ast.specs.Views.{process_of}
use Rattle.sdl_measures.proofs.limits.count_pieces.Given as goal

abbrev pub invariant-loop-table : goal.invariant-loop-table
invariant-loop-table l =
    l.count ≡ min (sum_by (λ p. length (pieces_of p)) (map process_of (take l.table-index l.tables))) 18446744073709551615
