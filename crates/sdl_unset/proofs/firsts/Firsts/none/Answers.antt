use Rattle.std.proofs.Common.{◌≡◌, ℕ, zero, suc, Option, None, refl}
use Rattle.std.specs.Prelude.{slice_get, replicate}
use Rattle.std.specs.Option.{option_map_or}
use Rattle.sdl_unset.proofs.firsts.Firsts.none.Goals as goal

abbrev nothing : Option ℕ
nothing = None

empty : (n v : ℕ) → option_map_or (λ (o : Option ℕ). o) (slice_get (replicate n nothing) v) nothing ≡ nothing
empty zero v = refl
empty (suc n) zero = refl
empty (suc n) (suc v) = empty n v

pub returns : goal.returns
returns c = λ v. empty 32 v
