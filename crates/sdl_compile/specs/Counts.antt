-- The known counts of connections, and the count of the longest path of a piece.
use Rattle.std.specs.Prelude.{ℕ, List, slice_get}
use Rattle.std.specs.Option.{option_map_or}
use Rattle.sdl_ast.specs.Plain.{PlainProcess}
use Rattle.sdl_sound.specs.Longest.{Piece, piece_budget, piece_effects}
use Rattle.sdl_emit.specs.sdl_measures_types.measures.Measure.{Measure}
use Rattle.sdl_compile.specs.declared.counts.Counted.{Counted}
use Rattle.sdl_compile.specs.declared.counts.Counted.TheVariants.{Instructions, Effects}

-- The known count of a connection with this measure.
abbrev pub measure_of : Counted → Measure → ℕ
measure_of Instructions m = m.budget
measure_of Effects m = m.effects

-- The count of the connection with this number.
abbrev pub measured : Counted → List Measure → ℕ → ℕ
measured counted ms n = option_map_or (λ m. measure_of counted m) (slice_get ms n) 0

-- The count of the longest path of a piece.
abbrev pub piece_count : Counted → PlainProcess → Piece → ℕ
piece_count Instructions p q = piece_budget p q
piece_count Effects p q = piece_effects p q
