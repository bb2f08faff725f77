-- The concatenation of pieces.
use Rattle.std.proofs.Common.{◌≡◌, ◌∙◌, ℕ, ◌+◌, ◌<◌, ◌≤◌, List, [], ◌∷◌, ◌++◌, append_assoc, append-nil, length, drop, get_or, sym, ap}
use Rattle.std.proofs.lemmas.List.{drop_more, drop_all}

-- the pieces of each item, by its index
pub pieces_on : {A B : Type 0} (F : ℕ → List A → List B) (f : ℕ → A → List B) → ((n : ℕ) (x : A) (xs : List A) → F n (x ∷ xs) ≡ f n x ++ F (n + 1) xs)
    → (start old new : List B) (xs : List A) (i : ℕ) (x : A) → i < length xs → x ≡ get_or xs i x → new ≡ old ++ f i x → old ++ F i (drop i xs) ≡ start
    → new ++ F (i + 1) (drop (i + 1) xs) ≡ start
pieces_on F f first start old new xs i x lt is more before =
    let rest = F (i + 1) (drop (i + 1) xs) in
    let there : drop i xs ≡ x ∷ drop (i + 1) xs = drop_more xs i x lt ∙ ap (λ y. y ∷ drop (i + 1) xs) (sym is) in
    ap (λ l. l ++ rest) more
    ∙ (append_assoc old (f i x) rest
    ∙ (ap (λ l. old ++ l) (sym (first i x (drop (i + 1) xs))) ∙ (ap (λ l. old ++ F i l) (sym there) ∙ before)))

pub pieces_past : {A B : Type 0} (F : ℕ → List A → List B) (start old : List B) (xs : List A) (i : ℕ) → F i [] ≡ [] → length xs ≤ i → old ++ F i (drop i xs) ≡ start → old ≡ start
pieces_past F start old xs i none past before =
    sym (append-nil old) ∙ (ap (λ l. old ++ l) (sym none) ∙ (ap (λ l. old ++ F i l) (sym (drop_all i xs past)) ∙ before))
