-- Tokens are marked one after another.
use Rattle.std.proofs.Common.{◌≡◌, ℕ, ◌+◌, ◌<◌, ◌≤◌, List, [], ◌∷◌, ◌++◌, length, take, drop, map, ap, refl, ◌∙◌, get_or, set, zero, suc, arith}

changed_there : {A : Type 0} (f : A → A) (d : A) (init : List A) (i : ℕ) → i < length init
    → set (map f (take i init) ++ drop i init) i (f (get_or (map f (take i init) ++ drop i init) i d)) ≡ map f (take (suc i) init) ++ drop (suc i) init
changed_there f d [] i low = absurd (omega (arith, low))
changed_there f d (x ∷ xs) zero low = refl
changed_there f d (x ∷ xs) (suc i) low = ap (λ l. f x ∷ l) (changed_there f d xs i (omega (arith, low)))

pub changed_next : {A : Type 0} (f : A → A) (d : A) (init now : List A) (i : ℕ) (value : A) → i < length init → now ≡ map f (take i init) ++ drop i init
    → value ≡ f (get_or now i d) → set now i value ≡ map f (take (i + 1) init) ++ drop (i + 1) init
changed_next f d init now i value low is turns =
    ap (λ v. set now i v) turns
    ∙ (ap (λ l. set l i (f (get_or l i d))) is
    ∙ (changed_there f d init i low ∙ ap (λ n. map f (take n init) ++ drop n init) (let e : suc i ≡ i + 1 = omega arith in e)))

pub changed_all : {A : Type 0} (f : A → A) (init : List A) (i : ℕ) → length init ≤ i → map f (take i init) ++ drop i init ≡ map f init
changed_all f [] zero past = refl
changed_all f [] (suc i) past = refl
changed_all f (x ∷ xs) zero past = absurd (omega (arith, past))
changed_all f (x ∷ xs) (suc i) past = ap (λ l. f x ∷ l) (changed_all f xs i (omega (arith, past)))
