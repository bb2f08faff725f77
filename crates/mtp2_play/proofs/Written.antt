-- Lines that are written one by one.
use Rattle.std.proofs.Common.{◌≡◌, ℕ, ◌+◌, ◌<◌, List, [], ◌∷◌, ◌++◌, Option, length, take, ap, sym, subst, ◌∙◌}
use Rattle.std.proofs.lemmas.List.{take_more, flat_map_more}
use Rattle.std.proofs.KnownBytes.{Appends-trans}
use Rattle.std.specs.List.{flat_map}
use Rattle.std.specs.Io.KnownBytes.{Appends}
use lib.ListN.{get_or}

-- the lines of one more item
pub more_lines : {X : Type 0} (f : X → List ℕ) (items : List X) (i : ℕ) (x : X) (text : List ℕ) (a b c : Option (List ℕ))
    → i < length items → x ≡ get_or items i x → text ≡ f x → Appends a b (flat_map f (take i items)) → Appends b c text
    → Appends a c (flat_map f (take (i + 1) items))
more_lines f items i x text a b c within is printed before line =
    subst (Appends a c)
    (ap (λ l. flat_map f (take i items) ++ l) printed
    ∙ (flat_map_more f [] (take i items) x
    ∙ ap (flat_map f) (ap (λ y. take i items ++ y ∷ []) is ∙ sym (take_more items i x within))))
    (Appends-trans a b c _ _ before line)
