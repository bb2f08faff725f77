-- The measurement that has a name.
use Rattle.std.proofs.Common.{◌≡◌, ℕ, List, Option, Some, sym, ap, ◌∙◌, subst}
use Rattle.std.specs.Prelude.{option_and_then, slice_get, position}
use Rattle.std.specs.Str.{bytes_eq}
use Rattle.resend_store.specs.declared.measures.Measure.{Measure}
use Rattle.resend_store.specs.MeasureNames.{measure_word, all_measures, measure_named}

pub named_at : (all : List Measure) (word : List ℕ) (place : ℕ) (got : Option Measure) → all ≡ all_measures
    → position (λ (m : Measure). bytes_eq (measure_word m) word) all ≡ Some place → got ≡ slice_get all place → got ≡ measure_named word
named_at all word place got same found is =
    let P : List Measure → Type 0 = λ xs. position (λ (m : Measure). bytes_eq (measure_word m) word) xs ≡ Some place in
    let Q : List Measure → Type 0 = λ xs. got ≡ slice_get xs place in
    subst Q same is ∙ sym (ap (option_and_then (slice_get all_measures)) (subst P same found))
