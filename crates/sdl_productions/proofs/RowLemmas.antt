-- The invariants of loops that read repeated items.
use Rattle.std.proofs.Common.{◌≡◌, ℕ, ◌<◌, ◌≤◌, true, false, List, [], ◌∷◌, ◌++◌, Option, length, map, refl, sym, ap, ◌∙◌, append_assoc, append-nil, arith}
use Rattle.sdl_lex.specs.declared.lexemes.Token.{Token}
use Rattle.sdl_lex.specs.declared.lexemes.Symbol.TheVariants.{Comma}
use Rattle.sdl_productions.specs.Tokens.{begins, a_symbol}
use Rattle.sdl_productions.specs.Readings.{Reading, read, fails, At, then_read, many, token, prepend, Shortens, NeverLonger, behind_comma}
use Rattle.sdl_productions.specs.Mirrors.{Stops}
use Rattle.sdl_productions.specs.declared.stop.Stop.{Stop}
use Rattle.sdl_productions.specs.declared.stop.Stop.TheVariants.{Unexpected, NoMemory}
use Rattle.sdl_productions.proofs.Rows.{many_goes, many_stops, many_fails, shortens_token}

prepend-append : {A : Type 0} (xs ys : List A) (r : Reading (List A)) → prepend xs (prepend ys r) ≡ prepend (xs ++ ys) r
prepend-append xs ys (read zs us) = ap (λ l. read l us) (sym (append_assoc xs ys zs))
prepend-append xs ys (fails us) = refl

map-push : {A B : Type 0} (f : A → B) (xs : List A) (x : A) → map f (xs ++ x ∷ []) ≡ map f xs ++ f x ∷ []
map-push f [] x = refl
map-push f (y ∷ ys) x = ap (λ l. f y ∷ l) (map-push f ys x)

-- One more item was read and appended to the others.
pub row_turn : {I A B : Type 0} (f : Token → Option B) (p : At A) (view : I → A) (r : Reading (List A)) (items new : List I) (item : I) (ts us : List Token)
    → Shortens p → begins f ts ≡ true → p ts ≡ read (view item) us → new ≡ items ++ item ∷ [] → r ≡ prepend (map view items) (many f p ts)
    → r ≡ prepend (map view new) (many f p us)
row_turn f p view r items new item ts us sp e h push k =
    k
    ∙ ap (prepend (map view items)) (many_goes f p ts (view item) us sp e h)
    ∙ prepend-append (map view items) (view item ∷ []) (many f p us)
    ∙ ap (λ l. prepend l (many f p us)) (sym (ap (map view) push ∙ map-push view items item))

pub row_done : {A B : Type 0} (f : Token → Option B) (p : At A) (r : Reading (List A)) (xs : List A) (ts : List Token)
    → begins f ts ≡ false → r ≡ prepend xs (many f p ts) → r ≡ read xs ts
row_done f p r xs ts e k = k ∙ ap (prepend xs) (many_stops f p ts e) ∙ ap (λ l. read l ts) (append-nil xs)

pub row_fails : {A B : Type 0} (f : Token → Option B) (p : At A) (r : Reading (List A)) (xs : List A) (ts us : List Token)
    → begins f ts ≡ true → p ts ≡ fails us → r ≡ prepend xs (many f p ts) → r ≡ fails us
row_fails f p r xs ts us e h k = k ∙ ap (prepend xs) (many_fails f p ts us e h)

pub shortens_behind_comma : {A : Type 0} (p : At A) → NeverLonger p → Shortens (behind_comma p)
shortens_behind_comma p sp ts y us h = by_comma (token (a_symbol Comma) ts) refl h
  where
    by_comma : (r : Reading ℕ) → token (a_symbol Comma) ts ≡ r → then_read r (λ _. p) ≡ read y us → length us < length ts
    by_comma (fails vs) e h = cc
    by_comma (read x vs) e h =
        let a : length vs < length ts = shortens_token (a_symbol Comma) ts x vs e in
        let b : length us ≤ length vs = sp vs y us h in
        omega arith

-- If an item can't be read, the repetition stops there.
pub row_stops : {A B : Type 0} (f : Token → Option B) (p : At A) (r : Reading (List A)) (xs : List A) (ts : List Token) (stop : Stop)
    → begins f ts ≡ true → Stops stop (p ts) → r ≡ prepend xs (many f p ts) → Stops stop r
row_stops f p r xs ts (Unexpected left) e h k = row_fails f p r xs ts left.now e h k
row_stops f p r xs ts NoMemory e h k = tt
