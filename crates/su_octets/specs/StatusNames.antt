-- The status indications by their codes, from 0 (Q.703, 11.1.3). The last two have no name.
use Rattle.std.specs.Prelude.{ℕ, List, [], ◌∷◌, codes}

abbrev pub STATUS_NAMES : List (List ℕ)
STATUS_NAMES =
    codes "SIO" ∷ codes "SIN" ∷ codes "SIE" ∷ codes "SIOS" ∷ codes "SIPO" ∷ codes "SIB" ∷ codes "6"
    ∷ codes "7" ∷ []
