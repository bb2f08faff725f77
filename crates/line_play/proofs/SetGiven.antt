-- Orders as they are given.
use Rattle.std.proofs.Common.{◌≡◌, ◌∙◌, ◌&&◌, ◌||◌, ℕ, ◌+◌, ◌<◌, ◌≤◌, zero, suc, nat_lt, Bool, true, false, not, List, [], ◌∷◌, ◌++◌, length, map, take, drop, get_or, Bor, Option, None, Some, is_some, option_map, true≢false, refl, sym, ap, subst, arith}
use Rattle.std.specs.List.{list_all, list_any}
use Rattle.std.proofs.lemmas.Bool.Decides.{nat_tests}
use Rattle.std.proofs.lemmas.List.{take_all, take_more, drop_all, length-map, map-append, take-append-drop}
use Rattle.std.proofs.lemmas.List.Folds.{list_all-append, list_any_at, list_any_more}
use Rattle.script_lines.specs.Lines.{texts}
use Rattle.script_lines.specs.Numbers.{count_of}
use Rattle.line_play.specs.SetGiven.{is_number, number_of, numbers_of, first_links, PlainWhom, with_links, whom_of, said_at}
use Rattle.line_play.specs.SetOrders.{PlainSetOrder, set_order_of}

-- one more word
texts_more : (ws : List (Bor (List ℕ))) (i : ℕ) (d : Bor (List ℕ)) → i < length ws → texts (take (i + 1) ws) ≡ texts (take i ws) ++ (get_or ws i d).now ∷ []
texts_more ws i d within = ap texts (take_more ws i d within) ∙ map-append (λ (w : Bor (List ℕ)). w.now) (take i ws) (get_or ws i d ∷ [])

and_true : (x y : Bool) → x ≡ true → y ≡ true → (x && (y && true)) ≡ true
and_true true true a b = refl
and_true true false a b = absurd (true≢false (sym b))
and_true false y a b = absurd (true≢false (sym a))

and_none : (x y z : Bool) → y ≡ false → ((x && (y && true)) && z) ≡ false
and_none true false z b = refl
and_none false y z b = refl
and_none true true z b = absurd (true≢false b)

pub number_there : (o : Option ℕ) (word : List ℕ) (b : Bool) → o ≡ count_of word → is_some o ≡ not b → b ≡ false → is_number word ≡ true
number_there o word b is none_is denied = sym (ap is_some is) ∙ (none_is ∙ ap not denied)

pub number_lacks : (o : Option ℕ) (word : List ℕ) (b : Bool) → o ≡ count_of word → is_some o ≡ not b → b ≡ true → is_number word ≡ false
number_lacks o word b is none_is shown = sym (ap is_some is) ∙ (none_is ∙ ap not shown)

pub numbers_more : (ws : List (Bor (List ℕ))) (i : ℕ) (d : Bor (List ℕ)) → i < length ws → list_all is_number (texts (take i ws)) ≡ true
    → is_number (get_or ws i d).now ≡ true → list_all is_number (texts (take (i + 1) ws)) ≡ true
numbers_more ws i d within before one =
    ap (list_all is_number) (texts_more ws i d within)
    ∙ (list_all-append is_number (texts (take i ws)) ((get_or ws i d).now ∷ [])
    ∙ and_true (list_all is_number (texts (take i ws))) (is_number (get_or ws i d).now) before one)

pub no_numbers : (ws : List (Bor (List ℕ))) (i : ℕ) (d : Bor (List ℕ)) → i < length ws → is_number (get_or ws i d).now ≡ false
    → list_all is_number (texts ws) ≡ false
no_numbers ws i d within one =
    let parts : texts (take (i + 1) ws) ++ texts (drop (i + 1) ws) ≡ texts ws =
    sym (map-append (λ (w : Bor (List ℕ)). w.now) (take (i + 1) ws) (drop (i + 1) ws)) ∙ ap texts (take-append-drop (i + 1) ws) in
    let front : list_all is_number (texts (take (i + 1) ws)) ≡ (list_all is_number (texts (take i ws)) && (is_number (get_or ws i d).now && true)) =
    ap (list_all is_number) (texts_more ws i d within) ∙ list_all-append is_number (texts (take i ws)) ((get_or ws i d).now ∷ []) in
    sym (ap (list_all is_number) parts)
    ∙ (list_all-append is_number (texts (take (i + 1) ws)) (texts (drop (i + 1) ws))
    ∙ (ap (λ (b : Bool). b && list_all is_number (texts (drop (i + 1) ws))) front
    ∙ and_none (list_all is_number (texts (take i ws))) (is_number (get_or ws i d).now) (list_all is_number (texts (drop (i + 1) ws))) one))

pub numbers_all : (ws : List (Bor (List ℕ))) (i : ℕ) → length ws ≤ i → list_all is_number (texts (take i ws)) ≡ true → list_all is_number (texts ws) ≡ true
numbers_all ws i whole before = sym (ap (λ (l : List (Bor (List ℕ))). list_all is_number (texts l)) (take_all i ws whole)) ∙ before

-- the links of words
pub links_more : (ws : List (Bor (List ℕ))) (i n : ℕ) (d : Bor (List ℕ)) (old new : List ℕ) → i < length ws → old ≡ numbers_of (texts (take i ws))
    → n ≡ number_of (get_or ws i d).now → new ≡ old ++ n ∷ [] → new ≡ numbers_of (texts (take (i + 1) ws))
links_more ws i n d old new within before is more =
    more ∙ (ap (λ (l : List ℕ). l ++ n ∷ []) before ∙ (ap (λ (k : ℕ). numbers_of (texts (take i ws)) ++ k ∷ []) is
    ∙ (sym (map-append number_of (texts (take i ws)) ((get_or ws i d).now ∷ [])) ∙ sym (ap numbers_of (texts_more ws i d within)))))

pub links_all : (ws : List (Bor (List ℕ))) (i : ℕ) (links : List ℕ) → length ws ≤ i → links ≡ numbers_of (texts (take i ws)) → links ≡ numbers_of (texts ws)
links_all ws i links whole before = before ∙ ap (λ (l : List (Bor (List ℕ))). numbers_of (texts l)) (take_all i ws whole)

-- ---- the first `count` links

pub first_more : (old new : List ℕ) (l k : ℕ) → k ≡ suc l → old ≡ first_links l → new ≡ old ++ l ∷ [] → new ≡ first_links k
first_more old new l k is before more = more ∙ (ap (λ (ls : List ℕ). ls ++ l ∷ []) before ∙ sym (ap first_links is))

pub first_all : (links : List ℕ) (n m : ℕ) → n ≡ m → links ≡ first_links n → links ≡ first_links m
first_all links n m all before = before ∙ ap first_links all

-- ---- a link that doesn't exist

or_last : (x y : Bool) → y ≡ true → (x || y) ≡ true
or_last true y some = refl
or_last false y some = some

or_none : (x y : Bool) → x ≡ false → y ≡ false → (x || y) ≡ false
or_none false y a b = b
or_none true y a b = absurd (true≢false a)

pub none_past : (p : ℕ → Bool) (ls : List ℕ) (i d : ℕ) → i < length ls → list_any p (take i ls) ≡ false → p (get_or ls i d) ≡ false → list_any p (take (i + 1) ls) ≡ false
none_past p ls i d within before one = list_any_more p ls i d within ∙ or_none (list_any p (take i ls)) (p (get_or ls i d)) before one

pub all_past : (p : ℕ → Bool) (ls : List ℕ) (i : ℕ) → length ls ≤ i → list_any p (take i ls) ≡ false → list_any p ls ≡ false
all_past p ls i whole before = sym (ap (list_any p) (take_all i ls whole)) ∙ before

-- ---- an order and its links

take_texts : (n : ℕ) (ws : List (Bor (List ℕ))) → texts (take n ws) ≡ take n (texts ws)
take_texts zero ws = refl
take_texts (suc n) [] = refl
take_texts (suc n) (w ∷ ws) = ap (λ (l : List (List ℕ)). w.now ∷ l) (take_texts n ws)

drop_texts : (n : ℕ) (ws : List (Bor (List ℕ))) → texts (drop n ws) ≡ drop n (texts ws)
drop_texts zero ws = refl
drop_texts (suc n) [] = refl
drop_texts (suc n) (w ∷ ws) = drop_texts n ws

pub with_none : (o : Option PlainSetOrder) → with_links o None ≡ None
with_none None = refl
with_none (Some order) = refl

drop_past : (n : ℕ) (ws : List (List ℕ)) → length ws < n → drop n ws ≡ []
drop_past n ws past = drop_all n ws (omega (arith, past))

-- the words after an order, and the order's own, are all of the words
pub parts_are : (ws front back : List (Bor (List ℕ))) (n : ℕ) → front ≡ take n ws → back ≡ drop n ws
    → with_links (set_order_of (texts front)) (whom_of (texts back)) ≡ said_at n (texts ws)
parts_are ws front back n front_is back_is =
    ap (λ (l : List (List ℕ)). with_links (set_order_of l) (whom_of (texts back))) (ap texts front_is ∙ take_texts n ws)
    ∙ ap (λ (l : List (List ℕ)). with_links (set_order_of (take n (texts ws))) (whom_of l)) (ap texts back_is ∙ drop_texts n ws)

pub said_past : (ws : List (Bor (List ℕ))) (n : ℕ) → length ws < n → None ≡ said_at n (texts ws)
said_past ws n past =
    let e : length (texts ws) ≡ length ws = length-map ws (λ (w : Bor (List ℕ)). w.now) in
    sym (with_none (set_order_of (take n (texts ws))))
    ∙ ap (λ (x : List (List ℕ)). with_links (set_order_of (take n (texts ws))) (whom_of x)) (sym (drop_past n (texts ws) (omega (arith, past, e))))

pub short_by : (len own : ℕ) (b : Bool) → b ≡ nat_lt len own → b ≡ true → len < own
short_by len own b is shown = grind (arith, nat_tests)

pub some_past : (p : ℕ → Bool) (ls : List ℕ) (i d : ℕ) → i < length ls → p (get_or ls i d) ≡ true → list_any p ls ≡ true
some_past p ls i d within shown = list_any_at p ls i d within shown
