-- Lists without duplicates, and names that repeat.
use Rattle.std.proofs.Common.{◌≡◌, ℕ, Bool, true, false, not, ◌||◌, List, [], ◌∷◌, ◌++◌, fold, Option, if◌then◌else◌, bytes_eq, refl, sym, ap, ◌∙◌, subst, append_assoc}
use Rattle.std.specs.List.{list_any}
use Rattle.std.proofs.lemmas.List.Folds.{list_any-append}
use Rattle.std.proofs.lemmas.List.{append-nil}
use Rattle.std.proofs.lemmas.List.Sums.{fold-append}
use Rattle.std.proofs.lemmas.Slice.Eq.{bytes_eq-Decides}
use Rattle.std.proofs.Math.Bool.{or-true, or-false, or_assoc}
use Rattle.sdl_ast.specs.Spelling.{folded}
use Rattle.sdl_ast.specs.declared.expression.Identifier.{Identifier}
use Rattle.sdl_tables.specs.Names.{same_name, is_in, add_name, names_once}
use Rattle.sdl_tables.specs.Scopes.{repeats, Marks}
use Rattle.plain_laws.proofs.Lists.{cons-nil, append-nil_left, append-nil_right}

-- Two spellings of one name are both in a list, or neither is.
is_in-same : (ids : List Identifier) (x y : List ℕ) → same_name x y ≡ true → is_in ids x ≡ is_in ids y
is_in-same ids x y h =
    ap (λ f. list_any (λ id. bytes_eq f (folded id.name)) ids) ((bytes_eq-Decides (folded x) (folded y)).0 h)

covered : (ids : List Identifier) (x y : List ℕ) → is_in ids y ≡ true → (b : Bool) → same_name x y ≡ b → is_in ids x ≡ (is_in ids x || b)
covered ids x y h true e = is_in-same ids x y e ∙ (h ∙ sym (or-true (is_in ids x)))
covered ids x y h false e = sym (or-false (is_in ids x))

one_more : (ids : List Identifier) (id : Identifier) (x : List ℕ) → (b : Bool) → is_in ids id.name ≡ b
    → is_in (if b then ids else ids ++ id ∷ []) x ≡ (is_in ids x || same_name x id.name)
one_more ids id x true h = covered ids x id.name h (same_name x id.name) refl
one_more ids id x false h =
    list_any-append (λ y. same_name x y.name) ids (id ∷ [])
    ∙ ap (λ r. is_in ids x || r) (or-false (same_name x id.name))

is_in-add_name : (ids : List Identifier) (id : Identifier) (x : List ℕ) → is_in (add_name ids id) x ≡ (is_in ids x || same_name x id.name)
is_in-add_name ids id x = one_more ids id x (is_in ids id.name) refl

is_in-fold : (before ids : List Identifier) (x : List ℕ) → is_in (fold add_name before ids) x ≡ (is_in before x || is_in ids x)
is_in-fold before [] x = sym (or-false (is_in before x))
is_in-fold before (id ∷ ids) x =
    is_in-fold (add_name before id) ids x
    ∙ (ap (λ r. r || is_in ids x) (is_in-add_name before id x)
    ∙ or_assoc (is_in before x) (same_name x id.name) (is_in ids x))

-- Removing duplicates keeps all names.
pub is_in-names_once : (ids : List Identifier) (x : List ℕ) → is_in (names_once ids) x ≡ is_in ids x
is_in-names_once ids x = is_in-fold [] ids x

pub repeats-append : (before xs ys : List Identifier) → repeats before (xs ++ ys) ≡ repeats before xs ++ repeats (before ++ xs) ys
repeats-append before [] ys = rw (append-nil before) refl
repeats-append before (x ∷ xs) ys =
    let here = if is_in before x.name then x.at ∷ [] else [] in
    ap (λ r. here ++ r) (repeats-append (before ++ x ∷ []) xs ys)
    ∙ (sym (append_assoc here (repeats (before ++ x ∷ []) xs) (repeats ((before ++ x ∷ []) ++ xs) ys))
    ∙ ap (λ b. (here ++ repeats (before ++ x ∷ []) xs) ++ repeats b ys) (append_assoc before (x ∷ []) xs))

-- One more identifier.
pub repeats-push : (xs : List Identifier) (id : Identifier)
    → repeats [] (xs ++ id ∷ []) ≡ repeats [] xs ++ (if is_in xs id.name then id.at ∷ [] else [])
repeats-push xs id =
    repeats-append [] xs (id ∷ []) ∙ ap (λ r. repeats [] xs ++ r) (append-nil (if is_in xs id.name then id.at ∷ [] else []))

pub if-not : (b : Bool) (x y : List ℕ) → (if not b then x else y) ≡ (if b then y else x)
if-not true x y = refl
if-not false x y = refl

pub marked-push : (xs : List Identifier) (id : Identifier) (names : List Identifier) (new : Bool) (double : Option ℕ)
    → names ≡ names_once xs → new ≡ not (is_in names id.name) → Marks double (repeats [] xs ++ (if new then [] else id.at ∷ []))
    → Marks double (repeats [] (xs ++ id ∷ []))
marked-push xs id names new double once fresh m =
    let same : (if new then [] else id.at ∷ []) ≡ (if is_in xs id.name then id.at ∷ [] else []) =
    ap (λ b. if b then [] else id.at ∷ []) fresh
    ∙ (if-not (is_in names id.name) [] (id.at ∷ [])
    ∙ ap (λ b. if b then id.at ∷ [] else []) (ap (λ ids. is_in ids id.name) once ∙ is_in-names_once xs id.name)) in
    subst (Marks double) (ap (λ r. repeats [] xs ++ r) same ∙ sym (repeats-push xs id)) m

pub names_once-push : (xs : List Identifier) (id : Identifier) → names_once (xs ++ id ∷ []) ≡ add_name (names_once xs) id
names_once-push xs id = fold-append add_name [] xs (id ∷ [])

add-distinct : (before : List Identifier) (id : Identifier) (b : Bool) → is_in before id.name ≡ b
    → (if b then id.at ∷ [] else []) ≡ [] → (if b then before else before ++ id ∷ []) ≡ before ++ id ∷ []
add-distinct before id true e h = absurd (cons-nil id.at [] h)
add-distinct before id false e h = refl

fold-distinct : (before ids : List Identifier) → repeats before ids ≡ [] → fold add_name before ids ≡ before ++ ids
fold-distinct before [] h = sym (append-nil before)
fold-distinct before (id ∷ ids) h =
    let here : (if is_in before id.name then id.at ∷ [] else []) ≡ [] = append-nil_left _ _ h in
    let rest : repeats (before ++ id ∷ []) ids ≡ [] = append-nil_right _ _ h in
    ap (λ b. fold add_name b ids) (add-distinct before id (is_in before id.name) refl here)
    ∙ (fold-distinct (before ++ id ∷ []) ids rest ∙ append_assoc before (id ∷ []) ids)

-- A list in which no name repeats is unchanged when duplicates are removed.
pub names_once-distinct : (ids : List Identifier) → repeats [] ids ≡ [] → names_once ids ≡ ids
names_once-distinct ids h = fold-distinct [] ids h
