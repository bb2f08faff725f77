-- The result of a search for receivers.
use Rattle.std.specs.Prelude.{◌≡◌, ◌<◌, List, [], ◌∷◌, length}
use Rattle.sdl_ast.specs.declared.tree.Party.{Party}
use Rattle.sdl_scopes.specs.declared.recipients.Recipients.{Recipients}
use Rattle.sdl_scopes.specs.declared.recipients.Recipients.TheVariants.{Nobody, One, Several}

-- the result for this list of receivers without duplicates
abbrev pub Counts : Recipients → List Party → Type 0
Counts Nobody parties = parties ≡ []
Counts (One q) parties = parties ≡ q ∷ []
Counts Several parties = 1 < length parties
