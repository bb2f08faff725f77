-- What the tables of ways and of takers say of the states of a process.
use Rattle.std.proofs.Common.{◌≡◌, ◌<◌, ℕ, zero, suc, ◌+◌, Bool, not, ◌&&◌, ◌||◌, List, [], ◌∷◌, ◌++◌, length, map, take, get_or, refl, sym, ap, ◌∙◌, arith, Some, true, false}
use Rattle.std.specs.Prelude.{filter}
use Rattle.std.specs.List.{list_any}
use Rattle.std.specs.Global.{Vec}
use Rattle.std.specs.Option.{option_map_or}
use Rattle.std.proofs.lemmas.List.{length-map, length-append, map_push}
use Rattle.std.proofs.lemmas.List.Folds.{list_any-append}
use Rattle.plain_laws.proofs.Lists.{mapped_more}
use Rattle.sdl_measures.specs.Links.{graph_in}
use Rattle.sdl_ast.specs.declared.expression.Identifier.{Identifier}
use Rattle.sdl_ast.specs.Plain.{PlainProcess}
use Rattle.sdl_tables.specs.Names.{Input, states_of, number_of, inputs_of, inputs_by_state}
use Rattle.sdl_warnings.specs.Marked.{is_marked}
use Rattle.sdl_warnings.specs.Reaches.{is_way_in}
use Rattle.sdl_warnings.specs.Ways.{enters, leads, upto, state_numbers, state_links, is_way, is_entered}
use Rattle.sdl_warnings.specs.Warned.{takes_in, takes, comes_to_take, saves_vainly}
use Rattle.sdl_warnings.specs.Standing.{AreWays, AreTakers}
use Rattle.sdl_warnings.specs.declared.ways.Ways.{Ways}
use Rattle.sdl_warnings.specs.declared.saves.Takers.{Takers}
use Rattle.sdl_warnings.proofs.Marking.{marked_map}
use Rattle.sdl_warnings.proofs.Upto.{any_below, at_upto, by_numbers}

pub length_upto : (n : ℕ) → length (upto n) ≡ n
length_upto zero = refl
length_upto (suc n) = length-append (upto n) (n ∷ []) ∙ (ap (λ k. k + 1) (length_upto n) ∙ omega arith)

-- two steps of a map in one
pub both_maps : {A B C : Type 0} (f : B → C) (g : A → B) (xs : List A) → map f (map g xs) ≡ map (λ x. f (g x)) xs
both_maps f g [] = refl
both_maps f g (x ∷ xs) = ap (λ l. f (g x) ∷ l) (both_maps f g xs)

-- whether a way leads from START
pub entered_same : (p : PlainProcess) (w : Ways) (n : ℕ) → n < length (states_of p) → AreWays p w
    → list_any (λ s. is_marked w.first.items s && is_way_in w.to.items s n) (upto (length w.first.items)) ≡ is_entered p n
entered_same p w n within are =
    ap (λ k. list_any (λ s. is_marked w.first.items s && is_way_in w.to.items s n) (upto k)) are.count
    ∙ any_below (λ s. is_marked w.first.items s && is_way_in w.to.items s n) (λ s. enters p p.start.text s && is_way p s n) (length (states_of p))
    (λ s below. ap (λ b. b && is_way_in w.to.items s n) (are.first s) ∙ ap (λ b. enters p p.start.text s && b) (are.ways s n within))

-- whether a way leads to a taker
pub comes_same : (p : PlainProcess) (w : Ways) (t : Takers) (s : ℕ) → AreWays p w → AreTakers p t
    → list_any (λ n. is_way_in w.to.items s n && is_marked t.marks.items n) (upto (length t.marks.items)) ≡ comes_to_take p t.name s
comes_same p w t s are takers =
    ap (λ k. list_any (λ n. is_way_in w.to.items s n && is_marked t.marks.items n) (upto k)) takers.count
    ∙ any_below (λ n. is_way_in w.to.items s n && is_marked t.marks.items n) (λ n. is_way p s n && takes p t.name n) (length (states_of p))
    (λ n within. ap (λ b. b && is_marked t.marks.items n) (are.ways s n within) ∙ ap (λ b. is_way p s n && b) (takers.each n within))

pub vain_state : (p : PlainProcess) (w : Ways) (t : Takers) (id : Identifier) (s : ℕ) → AreWays p w → AreTakers p t → number_of (states_of p) id.name ≡ Some s
    → not (list_any (λ n. is_way_in w.to.items s n && is_marked t.marks.items n) (upto (length t.marks.items))) ≡ saves_vainly p t.name id
vain_state p w t id s are takers found =
    ap not (comes_same p w t s are takers) ∙ ap (λ o. option_map_or (λ k. not (comes_to_take p t.name k)) o false) (sym found)

-- the takers, by the inputs of each state
pub takers_count : (p : PlainProcess) (x : List ℕ) (rows : List (List Input)) (marks : List Bool) → rows ≡ inputs_by_state p → marks ≡ map (takes_in x) rows → length marks ≡ length (states_of p)
takers_count p x rows marks are made =
    ap length (made ∙ ap (map (takes_in x)) (are ∙ by_numbers p))
    ∙ (length-map (map (inputs_of p) (state_numbers p)) (takes_in x) ∙ (length-map (state_numbers p) (inputs_of p) ∙ length_upto (length (states_of p))))

pub takers_each : (p : PlainProcess) (x : List ℕ) (rows : List (List Input)) (marks : List Bool) → rows ≡ inputs_by_state p → marks ≡ map (takes_in x) rows
    → (n : ℕ) → n < length (states_of p) → is_marked marks n ≡ takes p x n
takers_each p x rows marks are made n within =
    ap (λ l. is_marked l n) (made ∙ ap (map (takes_in x)) (are ∙ by_numbers p))
    ∙ marked_map (takes_in x) (map (inputs_of p) (state_numbers p)) n (inputs_of p n) (at_upto (inputs_of p) (length (states_of p)) n within)

-- the links, by the inputs of each state
pub links_same : (p : PlainProcess) (rows : List (List Input)) → rows ≡ inputs_by_state p
    → map (λ is. filter (λ n. list_any (λ i. enters p i.text n) is) (state_numbers p)) rows ≡ state_links p
links_same p rows are =
    ap (map (λ is. filter (λ n. list_any (λ i. enters p i.text n) is) (state_numbers p))) (are ∙ by_numbers p)
    ∙ both_maps (λ is. filter (λ n. list_any (λ i. enters p i.text n) is) (state_numbers p)) (inputs_of p) (state_numbers p)

pub links_count : (p : PlainProcess) → length (state_links p) ≡ length (states_of p)
links_count p = length-map (state_numbers p) (λ s. filter (leads p s) (state_numbers p)) ∙ length_upto (length (states_of p))

-- one row of links more
pub rows_on : {A B : Type 0} (F : B → List ℕ) (g : A → B) (xs : List A) (i : ℕ) (x : A) (old new : List (Vec ℕ)) (v : Vec ℕ) → i < length xs → x ≡ get_or xs i x → new ≡ old ++ v ∷ []
    → v.items ≡ F (g x) → graph_in old ≡ map F (map g (take i xs)) → graph_in new ≡ map F (map g (take (i + 1) xs))
rows_on F g xs i x old new v lt is grows told before =
    let done = map g (take i xs) in
    ap graph_in grows
    ∙ (map_push (λ (u : Vec ℕ). u.items) old v
    ∙ (ap (λ l. l ++ v.items ∷ []) before
    ∙ (ap (λ l. map F done ++ l ∷ []) told ∙ (sym (map_push F done (g x)) ∙ ap (map F) (sym (mapped_more g xs i x lt is))))))

or_nothing : (a b : Bool) → (a || (b || false)) ≡ (a || b)
or_nothing true b = refl
or_nothing false true = refl
or_nothing false false = refl

-- one input more
pub marks_on : {A B : Type 0} (h : B → ℕ → Bool) (g : A → B) (xs : List A) (i : ℕ) (x : A) (old new : List Bool) → i < length xs → x ≡ get_or xs i x
    → ((n : ℕ) → is_marked new n ≡ (is_marked old n || h (g x) n)) → ((n : ℕ) → is_marked old n ≡ list_any (λ y. h y n) (map g (take i xs)))
    → (n : ℕ) → is_marked new n ≡ list_any (λ y. h y n) (map g (take (i + 1) xs))
marks_on h g xs i x old new lt is step before n =
    let done = map g (take i xs) in
    step n
    ∙ (ap (λ b. b || h (g x) n) (before n)
    ∙ (sym (or_nothing (list_any (λ y. h y n) done) (h (g x) n))
    ∙ (sym (list_any-append (λ y. h y n) done (g x ∷ [])) ∙ ap (list_any (λ y. h y n)) (sym (mapped_more g xs i x lt is)))))

pub rows_count : (p : PlainProcess) (rows : List (Vec ℕ)) → graph_in rows ≡ state_links p → length rows ≡ length (states_of p)
rows_count p rows same = sym (length-map rows (λ (v : Vec ℕ). v.items)) ∙ (ap length same ∙ links_count p)
