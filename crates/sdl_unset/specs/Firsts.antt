-- The first place where each variable is read unset, by the variable's number.
use Rattle.std.specs.Prelude.{ℕ, Option, None, slice_get}
use Rattle.std.specs.Option.{option_map_or}
use Rattle.sdl_unset.specs.declared.firsts.Firsts.{Firsts}

-- The place of one variable.
abbrev pub first_at : Firsts → ℕ → Option ℕ
first_at firsts v = option_map_or (λ place. place) (slice_get firsts.places v) None
