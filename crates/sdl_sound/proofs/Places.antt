-- The first place in two lists together, and in a list with one more element.
use Rattle.std.proofs.Common.{◌≡◌, ℕ, zero, suc, ◌+◌, ◌<◌, true, ◌||◌, List, [], ◌∷◌, ◌++◌, Option, Some, None, if◌then◌else◌, map, take, length, get_or, sym, ap, ◌∙◌, subst}
use Rattle.std.specs.Prelude.{slice_get, Contains}
use Rattle.std.specs.List.{flat_map}
use Rattle.std.proofs.lemmas.List.{append-nil, take_more, map-append}
use Rattle.std.proofs.lemmas.List.Elements.{Contains-append_left, Contains-append_right}
use Rattle.std.proofs.lemmas.List.Folds.{list_any-append}
use Rattle.std.proofs.lemmas.Grind.{flat_map-append}
use Rattle.std.proofs.Math.Bool.{or-true}
use Rattle.sdl_tables.specs.sdl_ast_types.expression.Identifier.{Identifier}
use Rattle.sdl_tables.specs.Names.{same_name, is_in}
use Rattle.sdl_tables.specs.Scopes.{Marks}

-- A name in the second list is known in both lists together.
pub known-second : (xs ys : List Identifier) (id : Identifier) → is_in ys id.name ≡ true
    → (if is_in (xs ++ ys) id.name then [] else id.at ∷ []) ≡ []
known-second xs ys id h =
    let both : is_in (xs ++ ys) id.name ≡ true =
    list_any-append (λ i. same_name id.name i.name) xs ys ∙ (ap (λ b. is_in xs id.name || b) h ∙ or-true (is_in xs id.name)) in
    ap (λ b. if b then [] else id.at ∷ []) both

-- The places with one more element.
pub Marks-more : {A X : Type 0} (f : X → List ℕ) (g : A → X) (zs : List A) (i : ℕ) (a : A) (one other both : Option ℕ)
    → i < length zs → a ≡ get_or zs i a → Marks one (flat_map f (map g (take i zs))) → Marks other (f (g a))
    → ((xs ys : List ℕ) → Marks one xs → Marks other ys → Marks both (xs ++ ys))
    → Marks both (flat_map f (map g (take (i + 1) zs)))
Marks-more f g zs i a one other both lt is m n join =
    let more : take (i + 1) zs ≡ take i zs ++ a ∷ [] = take_more zs i a lt ∙ ap (λ y. take i zs ++ y ∷ []) (sym is) in
    let places : flat_map f (map g (take (i + 1) zs)) ≡ flat_map f (map g (take i zs)) ++ f (g a) =
    ap (λ l. flat_map f (map g l)) more
    ∙ (ap (flat_map f) (map-append g (take i zs) (a ∷ []))
    ∙ (flat_map-append f (map g (take i zs)) (g a ∷ []) ∙ ap (λ r. flat_map f (map g (take i zs)) ++ r) (append-nil (f (g a))))) in
    subst (Marks both) (sym places) (join (flat_map f (map g (take i zs))) (f (g a)) m n)

-- If one more element has no place, there is still none.
pub none-more : {A X : Type 0} (f : X → List ℕ) (g : A → X) (zs : List A) (i : ℕ) (a : A) → i < length zs → a ≡ get_or zs i a
    → flat_map f (map g (take i zs)) ≡ [] → f (g a) ≡ [] → flat_map f (map g (take (i + 1) zs)) ≡ []
none-more f g zs i a lt is m n =
    let more : take (i + 1) zs ≡ take i zs ++ a ∷ [] = take_more zs i a lt ∙ ap (λ y. take i zs ++ y ∷ []) (sym is) in
    ap (λ l. flat_map f (map g l)) more
    ∙ (ap (flat_map f) (map-append g (take i zs) (a ∷ []))
    ∙ (flat_map-append f (map g (take i zs)) (g a ∷ []) ∙ ap (λ r. r ++ (f (g a) ++ [])) m ∙ ap (λ r. r ++ []) n))

-- A place of an element is a place of the whole list.
pub place-among : {X : Type 0} (f : X → List ℕ) (xs : List X) (i : ℕ) (x : X) (at : ℕ) → slice_get xs i ≡ Some x → Contains (f x) at
    → Contains (flat_map f xs) at
place-among f [] i x at there h = let bad : None ≡ Some x = there in absurd (cc)
place-among f (y ∷ xs) zero x at there h =
    let is : Some y ≡ Some x = there in
    let same : y ≡ x = cc in
    Contains-append_left (f y) (flat_map f xs) at (subst (λ z. Contains (f z) at) (sym same) h)
place-among f (y ∷ xs) (suc i) x at there h = Contains-append_right (f y) (flat_map f xs) at (place-among f xs i x at there h)
