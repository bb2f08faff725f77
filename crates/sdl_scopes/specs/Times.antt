-- Counts as needed by the rule on answers: none, one, or more.
use Rattle.std.specs.Prelude.{◌≡◌, ℕ, ◌<◌}
use Rattle.sdl_scopes.specs.declared.decisions.Times.{Times}
use Rattle.sdl_scopes.specs.declared.decisions.Times.TheVariants.{Never, Once, Often}

abbrev pub Counted : Times → ℕ → Type 0
Counted Never n = n ≡ 0
Counted Once n = n ≡ 1
Counted Often n = 1 < n
