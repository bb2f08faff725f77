-- Tables of ways.
use Rattle.std.specs.Prelude.{ℕ, Bool, false, List, slice_get}
use Rattle.std.specs.Option.{option_map_or}
use Rattle.std.specs.Global.{Vec}
use Rattle.sdl_warnings.specs.Marked.{is_marked}

-- whether a way leads from one node to another, by a table with a row for each node to which
abbrev pub is_way_in : List (Vec Bool) → ℕ → ℕ → Bool
is_way_in ways n m =
    option_map_or (λ (row : Vec Bool). is_marked row.items n) (slice_get ways m) false
