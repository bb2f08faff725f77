-- Lists: empty lists, equal lists, parts of lists, and properties of each element.
use Rattle.std.proofs.Common.{◌≡◌, ℕ, zero, suc, ◌+◌, ◌-◌, ◌<◌, Bool, true, false, List, [], ◌∷◌, ◌++◌, length, take, drop, map, get_or, refl, ap, sym, ◌∙◌, subst, arith, take_all, if◌then◌else◌}
use Rattle.std.specs.Prelude.{Contains}
use Rattle.std.specs.List.{AllByRecursion}
use Rattle.std.proofs.lemmas.List.{length-drop, map-append, take_more}

-- ---- empty lists

pub cons-nil : {A : Type 0} (x : A) (xs : List A) → x ∷ xs ≡ [] → ⊥
cons-nil x xs h = cc

pub append-nil_left : {A : Type 0} (xs ys : List A) → xs ++ ys ≡ [] → xs ≡ []
append-nil_left [] ys h = refl
append-nil_left (x ∷ xs) ys h = absurd (cons-nil x (xs ++ ys) h)

pub append-nil_right : {A : Type 0} (xs ys : List A) → xs ++ ys ≡ [] → ys ≡ []
append-nil_right [] ys h = h
append-nil_right (x ∷ xs) ys h = absurd (cons-nil x (xs ++ ys) h)

pub not_empty : {A : Type 0} (xs : List A) (x : A) → Contains xs x → xs ≡ [] → ⊥
not_empty {A = A} xs x among e = let bad : Contains [] x = subst (λ (l : List A). Contains l x) e among in omega (arith, bad.1)

-- a list that a test decides: if the list is empty, the result of the test is known
pub test_known : {A : Type 0} (b : Bool) (x : A) → (if b then [] else x ∷ []) ≡ [] → b ≡ true
test_known true x h = refl
test_known false x h = absurd (cons-nil x [] h)

pub no_mark : {A : Type 0} (b : Bool) (x : A) → (if b then x ∷ [] else []) ≡ [] → b ≡ false
no_mark true x h = absurd (cons-nil x [] h)
no_mark false x h = refl

-- ---- heads, tails and fronts of equal lists

pub head_same : {A : Type 0} (x y : A) (xs ys : List A) → x ∷ xs ≡ y ∷ ys → x ≡ y
head_same x y xs ys same = cc

pub tail_same : {A : Type 0} (x y : A) (xs ys : List A) → x ∷ xs ≡ y ∷ ys → xs ≡ ys
tail_same x y xs ys same = cc

pub front_same : {A : Type 0} (xs ys us vs : List A) → length xs ≡ length ys → xs ++ us ≡ ys ++ vs → (xs ≡ ys) × (us ≡ vs)
front_same [] [] us vs long same = (refl, same)
front_same [] (y ∷ ys) us vs long same = absurd (omega arith)
front_same (x ∷ xs) [] us vs long same = absurd (omega arith)
front_same (x ∷ xs) (y ∷ ys) us vs long same =
    let rest : (xs ≡ ys) × (us ≡ vs) = front_same xs ys us vs (omega arith) (tail_same _ _ _ _ same) in
    let front : x ≡ y = head_same _ _ _ _ same in
    (cc (rest.0, front), rest.1)

-- ---- parts

pub tail_is : {A : Type 0} (i : ℕ) (xs : List A) → take (length xs - i) (drop i xs) ≡ drop i xs
tail_is i xs = take_all (length xs - i) (drop i xs) (omega (arith, length-drop i xs))

pub take_twice : {A : Type 0} (n : ℕ) (xs : List A) → take n (take (suc n) xs) ≡ take n xs
take_twice zero xs = refl
take_twice (suc n) [] = refl
take_twice (suc n) (x ∷ xs) = ap (λ ys. x ∷ ys) (take_twice n xs)

pub mapped_more : {A B : Type 0} (g : A → B) (xs : List A) (i : ℕ) (x : A) → i < length xs → x ≡ get_or xs i x → map g (take (i + 1) xs) ≡ map g (take i xs) ++ g x ∷ []
mapped_more g xs i x within is =
    ap (map g) (take_more xs i x within) ∙ map-append g (take i xs) (get_or xs i x ∷ []) ∙ ap (λ y. map g (take i xs) ++ g y ∷ []) (sym is)

-- ---- properties of each element

pub each_push : {A : Type 0} (P : A → Type 0) (xs : List A) (x : A) → AllByRecursion P xs → P x → AllByRecursion P (xs ++ x ∷ [])
each_push P [] x all one = (one, tt)
each_push P (y ∷ xs) x all one = (all.0, each_push P xs x all.1 one)

pub contains_there : {A : Type 0} (y x : A) (xs : List A) → Contains xs x → Contains (y ∷ xs) x
contains_there y x xs h = let l = h.1 in (suc h.0, omega (arith, l), h.2)
