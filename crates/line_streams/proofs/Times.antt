-- The millisecond that a line begins with.
use Rattle.std.proofs.Common.{◌≡◌, ℕ, suc, ◌+◌, ◌<◌, ◌==◌, Bool, false, ◌||◌, List, ◌∷◌, ◌++◌, length, get_or, take, drop, sym, ap, ◌∙◌, drop-cons}
use Rattle.std.specs.List.{list_any}
use Rattle.std.proofs.lemmas.Bool.{ne_eqb}
use Rattle.std.proofs.lemmas.List.{take-append-drop}
use Rattle.std.proofs.lemmas.List.Folds.{list_any_more}
use Rattle.line_streams.specs.Departing.{Begins}

pub begins_at : (line : List ℕ) (place : ℕ) → place < length line → list_any (λ (b : ℕ). b == 32) (take place line) ≡ false → get_or line place 0 ≡ 32
    → Begins line (take place line)
begins_at line place within none space =
    let rest : List ℕ = drop (suc place) line in
    record {
      first = none;
      rest = rest;
      parts = sym (take-append-drop place line) ∙ ap (λ t. take place line ++ t) (drop-cons line place 0 within ∙ ap (λ b. b ∷ rest) space);
    }

-- One more octet that isn't a space.
pub none_more : (line : List ℕ) (place : ℕ) → place < length line → list_any (λ (b : ℕ). b == 32) (take place line) ≡ false → (get_or line place 0 ≡ 32 → ⊥)
    → list_any (λ (b : ℕ). b == 32) (take (place + 1) line) ≡ false
none_more line place within none other =
    list_any_more (λ (b : ℕ). b == 32) line place 0 within ∙ ap (λ (b : Bool). b || (get_or line place 0 == 32)) none ∙ ne_eqb _ _ other
