-- Words for built-in sets.
use Rattle.std.proofs.Common.{◌≡◌, ◌∙◌, ℕ, List, Option, Some, ap, refl, subst, sym}
use Rattle.script_point.specs.Own.{text_of}
use Rattle.script_point.specs.mtp2_text_types.own.OwnSet.{OwnSet}
use Rattle.script_point.specs.mtp2_text_types.own.OwnSet.TheVariants.{Standard, Q703, Monitors}
use Rattle.script_check.specs.Checked.{given, own_word}
use Rattle.script_check.specs.declared.sets.SetWord.{SetWord}

-- The bytes of a built-in set's text are known.
given_own : {R : Type 0} (remaining : R → Option (List ℕ)) (own : OwnSet) → given remaining (own_word own) ≡ Some (text_of own)
given_own remaining Standard = refl
given_own remaining Q703 = refl
given_own remaining Monitors = refl

-- A property of that text is one of the bytes that the word denotes, and vice versa.
pub of_text : {R : Type 0} (remaining : R → Option (List ℕ)) (own : OwnSet) (set : SetWord R) (text : List ℕ) (P : Option (List ℕ) → Type 0) → set ≡ own_word own
    → text ≡ text_of own → P (Some text) → P (given remaining set)
of_text {R} remaining own set text P is same h =
    let Q : SetWord R → Type 0 = λ s. P (given remaining s) in
    subst Q (sym is) (subst P (ap Some same ∙ sym (given_own remaining own)) h)

pub to_text : {R : Type 0} (remaining : R → Option (List ℕ)) (own : OwnSet) (set : SetWord R) (P : Option (List ℕ) → Type 0) → set ≡ own_word own
    → P (given remaining set) → P (Some (text_of own))
to_text {R} remaining own set P is h =
    let Q : SetWord R → Type 0 = λ s. P (given remaining s) in
    subst P (given_own remaining own) (subst Q is h)
