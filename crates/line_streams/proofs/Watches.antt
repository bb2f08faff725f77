-- Orders looked at one after another.
use Rattle.std.proofs.Common.{◌≡◌, ◌∙◌, ℕ, ◌+◌, ◌<◌, ◌≤◌, ◌||◌, Bool, false, List, [], ◌∷◌, length, get_or, take, sym, ap, arith}
use Rattle.std.specs.List.{list_any}
use Rattle.std.proofs.lemmas.List.{take_all}
use Rattle.std.proofs.lemmas.List.Folds.{list_any_more}
use Rattle.line_streams.specs.Watching.{may_come}
use Rattle.line_streams.specs.declared.ending.End.{End}

-- One more that may not come.
pub any_more : (now : ℕ) (es : List End) (i : ℕ) (b : Bool) → i < length es → ((d : End) → b ≡ may_come now (get_or es i d)) → b ≡ false
    → list_any (may_come now) (take i es) ≡ false → list_any (may_come now) (take (i + 1) es) ≡ false
any_more now [] i b within is off none = absurd (omega arith)
any_more now (e ∷ es) i b within is off none =
    list_any_more (may_come now) (e ∷ es) i e within
    ∙ (ap (λ (c : Bool). c || may_come now (get_or (e ∷ es) i e)) none ∙ (sym (is e) ∙ off))

pub none_at_all : (now : ℕ) (es : List End) (i : ℕ) → length es ≤ i → list_any (may_come now) (take i es) ≡ false → list_any (may_come now) es ≡ false
none_at_all now es i all none = sym (ap (λ (xs : List End). list_any (may_come now) xs) (take_all i es all)) ∙ none
