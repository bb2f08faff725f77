-- The number after a dot.
use Rattle.std.proofs.Common.{◌≡◌, ℕ, List, [], ◌∷◌, None, refl, ap}
use Rattle.std.specs.Prelude.{◌≢◌}
use Rattle.std.proofs.lemmas.Bool.{ne_eqb}
use Rattle.mtp2_words.specs.Seeing.{behind_dot}

pub no_dot : (word : List ℕ) → ((rest : List ℕ) → word ≢ 46 ∷ rest) → None ≡ behind_dot word
no_dot [] none = refl
no_dot (b ∷ bs) none = rw (ne_eqb b 46 (λ e. none bs (ap (λ x. x ∷ bs) e))) refl
