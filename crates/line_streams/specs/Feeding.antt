-- The octets that a feed returns, of those that its thread delivers.
use Rattle.std.specs.Prelude.{◌≡◌, ◌≤◌, ℕ, List, ◌++◌, take, length}
use Rattle.line_streams.specs.declared.feeds.Fed.{Fed}
use Rattle.line_streams.specs.declared.feeds.Fed.TheVariants.{Octets, Ended, Failed}

-- The octets at the front of `part` are those delivered next, the oldest first; no others were
-- taken. None is taken at the line's end.
abbrev pub Gives : Fed → List ℕ → List ℕ → List ℕ → Type 0
Gives (Octets count) part old new = (count ≤ length part) × (new ≡ old ++ take count part)
Gives Ended part old new = new ≡ old
Gives Failed part old new = Unit {0}
