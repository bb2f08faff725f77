-- One more byte of the lines with a name before each.
use Rattle.std.proofs.Common.{◌≡◌, ◌∙◌, ℕ, ◌+◌, ◌<◌, ◌==◌, Bool, List, ◌∷◌, ◌++◌, length, drop, get_or, sym, ap, append_assoc}
use Rattle.std.proofs.lemmas.List.{at_drop_more}
use Rattle.script_point.specs.Fronts.{fronted, in_front}

pub fronted_more : (name : List ℕ) (begins : Bool) (lines out all : List ℕ) (i b : ℕ) → i < length lines → b ≡ get_or lines i b
    → out ++ in_front name begins (drop i lines) ≡ all → (out ++ fronted name begins b) ++ in_front name (b == 10) (drop (i + 1) lines) ≡ all
fronted_more name begins lines out all i b within is h =
    append_assoc out (fronted name begins b) (in_front name (b == 10) (drop (i + 1) lines))
    ∙ (ap (λ x. out ++ (fronted name begins x ++ in_front name (x == 10) (drop (i + 1) lines))) is
    ∙ (ap (λ y. out ++ y) (sym (at_drop_more (in_front name begins) lines i b within)) ∙ h))
