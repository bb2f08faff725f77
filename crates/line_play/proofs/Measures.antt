-- The lines of measurements.
use Rattle.std.proofs.Common.{◌≡◌, ℕ, ◌+◌, ◌<◌, List, [], ◌∷◌, ◌++◌, length, take, map, ap, sym, ◌∙◌}
use Rattle.std.specs.Prelude.{String, string_bytes}
use Rattle.std.proofs.lemmas.List.{map-append, take_more}
use lib.ListN.{get_or}

pub lines_more : {X Z : Type 0} (f : X → List ℕ) (all : List X) (i : ℕ) (x : X) (lines : List (String Z)) (line : String Z)
    → i < length all → x ≡ get_or all i x → string_bytes line ≡ f x → map string_bytes lines ≡ map f (take i all)
    → map string_bytes (lines ++ line ∷ []) ≡ map f (take (i + 1) all)
lines_more f all i x lines line within is printed before =
    map-append string_bytes lines (line ∷ [])
    ∙ (ap (λ (l : List (List ℕ)). l ++ string_bytes line ∷ []) before
    ∙ (ap (λ (y : List ℕ). map f (take i all) ++ y ∷ []) printed
    ∙ (ap (λ y. map f (take i all) ++ f y ∷ []) is
    ∙ (sym (map-append f (take i all) (get_or all i x ∷ [])) ∙ ap (map f) (sym (take_more all i x within))))))

pub with_last : {Z : Type 0} (lines : List (String Z)) (last : String Z) (first : List (List ℕ)) (text : List ℕ)
    → map string_bytes lines ≡ first → string_bytes last ≡ text → map string_bytes (lines ++ last ∷ []) ≡ first ++ text ∷ []
with_last lines last first text before printed =
    map-append string_bytes lines (last ∷ [])
    ∙ (ap (λ (l : List (List ℕ)). l ++ string_bytes last ∷ []) before ∙ ap (λ (t : List ℕ). first ++ t ∷ []) printed)
