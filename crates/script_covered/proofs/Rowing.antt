-- The transitions of a text: one more.
use Rattle.std.proofs.Common.{◌≡◌, ◌∙◌, ℕ, List, [], ◌∷◌, ◌++◌, map, ap}
use Rattle.std.proofs.lemmas.List.{map_push}
use Rattle.script_covered.specs.Lcov.{Transition, row_of}
use Rattle.script_covered.specs.declared.rows.Row.{Row}

abbrev pub made : ℕ → List ℕ → ℕ → Transition
made at name turns = record { at = at; name = name; turns = turns }

pub row_is : (at was : ℕ) (name is : List ℕ) (turns so : ℕ) → at ≡ was → name ≡ is → turns ≡ so → made at name turns ≡ made was is so
row_is at was name is turns so d e f = ap (λ k. made k name turns) d ∙ (ap (λ n. made was n turns) e ∙ ap (made was is) f)

pub row_more : (old new : List Row) (r : Row) (t : Transition) → new ≡ old ++ r ∷ [] → row_of r ≡ t → map row_of new ≡ map row_of old ++ t ∷ []
row_more old new r t more is = ap (map row_of) more ∙ (map_push row_of old r ∙ ap (λ x. map row_of old ++ x ∷ []) is)
