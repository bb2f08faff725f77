-- Lists in which each element stands for several others.
use Rattle.std.proofs.Common.{◌≡◌, ℕ, ◌+◌, ◌<◌, List, [], ◌∷◌, ◌++◌, length, take, map, get_or, ap, sym, ◌∙◌}
use Rattle.std.specs.List.{flat_map}
use Rattle.std.proofs.lemmas.List.{take_more, map-append, flat_map_more}

-- One more element that stands for several others.
pub flat_more : {A B : Type 0} (f : A → List B) (xs : List A) (i : ℕ) (x : A) → i < length xs → x ≡ get_or xs i x → flat_map f (take (i + 1) xs) ≡ flat_map f (take i xs) ++ f x
flat_more f xs i x within is = ap (flat_map f) (take_more xs i x within ∙ ap (λ u. take i xs ++ u ∷ []) (sym is)) ∙ sym (flat_map_more f [] (take i xs) x)

-- One more element that stands for several others, each of which is mapped.
pub spread_rows : {A B C : Type 0} (f : A → List B) (g : B → C) (xs : List A) (i : ℕ) (x : A) → i < length xs → x ≡ get_or xs i x
    → map g (flat_map f (take (i + 1) xs)) ≡ map g (flat_map f (take i xs)) ++ map g (f x)
spread_rows f g xs i x within is =
    ap (map g) (flat_more f xs i x within is) ∙ map-append g (flat_map f (take i xs)) (f x)
