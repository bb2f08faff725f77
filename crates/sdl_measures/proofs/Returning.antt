-- The JOINs that lead back to their connection, as the code finds them.
use Rattle.std.proofs.Common.{◌≡◌, ℕ, ◌+◌, ◌<◌, Bool, if◌then◌else◌, List, [], ◌∷◌, ◌++◌, refl, ap, sym, ◌∙◌, subst, arith, Option, Some, None}
use Rattle.std.specs.Prelude.{slice_get, Contains, All, IfSome, Ok, Err}
use Rattle.std.specs.List.{flat_map}
use Rattle.std.specs.Global.{Vec}
use Rattle.std.proofs.lemmas.List.{append-nil}
use Rattle.std.proofs.lemmas.List.Elements.{All-push, Contains-append_left}
use Rattle.std.proofs.lemmas.Grind.{flat_map-append}
use Rattle.std.proofs.Math.Bool.{or-false}
use Rattle.sdl_ast.specs.declared.tree.Join.{Join}
use Rattle.sdl_ast.specs.Plain.{PlainConnection, PlainProcess}
use Rattle.sdl_tables.specs.Names.{number_of, connector_names}
use Rattle.sdl_tables.specs.Scopes.{Marks}
use Rattle.sdl_sound.specs.Joins.{comes_back, process_cycles}
use Rattle.sdl_measures.specs.Links.{goes}
use Rattle.sdl_sound.specs.Orders.{links_of, IsOrder, IsOrdered, AreOrders}
use Rattle.sdl_measures.specs.Searched.{AreMarks}
use Rattle.sdl_measures.proofs.Connectors.{comes_is, comes_none}
use Rattle.plain_laws.proofs.Pairwise.{zip_push}
use Rattle.plain_laws.proofs.Lists.{append-nil_right as nil_of, not_empty as empty_not}

pub one_within : (t n : ℕ) → t < n → All (λ s. s < n) (t ∷ [])
one_within t n h = All-push (λ s. s < n) [] t (λ i d no. absurd (omega (arith, no))) h

pub back_none : (p : PlainProcess) (c : PlainConnection) (j : Join) (own : ℕ) → number_of (connector_names p) j.connector.name ≡ None
    → number_of (connector_names p) c.name.name ≡ Some own → comes_back p c j ≡ []
back_none p c j own none at = ap (λ b. if b then j.at ∷ [] else []) (comes_none p c.name.name j.connector.name own none at)

-- The mark of a connection tells whether a JOIN leads back to it.
pub back_is : (p : PlainProcess) (c : PlainConnection) (j : Join) (target own : ℕ) (g : List (List ℕ)) (marks : List Bool) (b : Bool) → g ≡ links_of p
    → AreMarks g (target ∷ []) marks → number_of (connector_names p) j.connector.name ≡ Some target → number_of (connector_names p) c.name.name ≡ Some own
    → slice_get marks own ≡ Some b → comes_back p c j ≡ (if b then j.at ∷ [] else [])
back_is p c j target own g marks b g_is are at own_at mark =
    let way : b ≡ goes g target own = are.each own b mark ∙ or-false (goes g target own) in
    ap (λ b. if b then j.at ∷ [] else [])
    (comes_is p c.name.name j.connector.name target own at own_at ∙ ap (λ x. goes x target own) (sym g_is) ∙ sym way)

pub marked_place : (places : List ℕ) (at : ℕ) → places ≡ at ∷ [] → Contains places at
marked_place places at e = subst (λ (l : List ℕ). Contains l at) (sym e) (0, omega arith, refl)

-- If the list of places isn't empty, a place was found.
pub some_place : (o : Option ℕ) (places : List ℕ) → Marks o places → (places ≡ [] → ⊥) → (at : ℕ) × (o ≡ Some at) × Contains places at
some_place None places marks some = absurd (some marks)
some_place (Some at) places marks some = (at, refl, marks)

-- ---- one more process

cycles_push : (ps : List PlainProcess) (p : PlainProcess) → flat_map process_cycles (ps ++ p ∷ []) ≡ flat_map process_cycles ps ++ process_cycles p
cycles_push ps p = flat_map-append process_cycles ps (p ∷ []) ∙ ap (λ l. flat_map process_cycles ps ++ l) (append-nil (process_cycles p))

-- The invariant for the processes visited so far.
pub record SoFar (ps : List PlainProcess) (place : Option ℕ) (orders : List (Vec ℕ)) : Type 0 where
  pub found : IfSome place (Contains (flat_map process_cycles ps))
  pub orders_are : place ≡ None → AreOrders ps orders
  pub none : place ≡ None → flat_map process_cycles ps ≡ []

found_left : (ps : List PlainProcess) (p : PlainProcess) (o : Option ℕ) → IfSome o (Contains (flat_map process_cycles ps)) → IfSome o (Contains (flat_map process_cycles (ps ++ p ∷ [])))
found_left ps p None h = h
found_left ps p (Some at) h =
    subst (λ (l : List ℕ). Contains l at) (sym (cycles_push ps p)) (Contains-append_left (flat_map process_cycles ps) (process_cycles p) at h)

pub so_far_order : (ps : List PlainProcess) (p : PlainProcess) (place : Option ℕ) (orders : List (Vec ℕ)) (order : Vec ℕ) → SoFar ps place orders
    → IsOrdered p (Ok order) → SoFar (ps ++ p ∷ []) place (orders ++ order ∷ [])
so_far_order ps p place orders order h is = record {
  found = found_left ps p place h.found;
  orders_are = λ e. zip_push (λ p (v : Vec ℕ). IsOrder p v.items) ps orders p order (h.orders_are e) is.0;
  none = λ e. cycles_push ps p ∙ ap (λ l. l ++ process_cycles p) (h.none e) ∙ is.1;
}

marks_found : (o : Option ℕ) (places : List ℕ) → Marks o places → IfSome o (Contains places)
marks_found None places h = tt
marks_found (Some at) places h = h

found_marks : (place : Option ℕ) (places : List ℕ) → IfSome place (Contains places) → (place ≡ None → places ≡ []) → Marks place places
found_marks None places found none = none refl
found_marks (Some at) places found none = found

not_none : (o : Option ℕ) (places : List ℕ) → Marks o places → (places ≡ [] → ⊥) → o ≡ None → ⊥
not_none o places marks some e = some (subst (λ (o : Option ℕ). Marks o places) e marks)

pub so_far_back : (ps : List PlainProcess) (p : PlainProcess) (place back both : Option ℕ) (orders : List (Vec ℕ)) → SoFar ps place orders
    → IsOrdered p (Err back) → ((xs ys : List ℕ) → Marks place xs → Marks back ys → Marks both (xs ++ ys)) → SoFar (ps ++ p ∷ []) both orders
so_far_back ps p place back both orders h is join =
    let here : Marks back (process_cycles p) = subst (λ (o : Option ℕ). Marks o (process_cycles p)) (sym is.1) is.2 in
    let all : Marks both (flat_map process_cycles ps ++ process_cycles p) =
    join (flat_map process_cycles ps) (process_cycles p) (found_marks place (flat_map process_cycles ps) h.found h.none) here in
    let told : Marks both (flat_map process_cycles (ps ++ p ∷ [])) = subst (Marks both) (sym (cycles_push ps p)) all in
    record {
      found = marks_found both (flat_map process_cycles (ps ++ p ∷ [])) told;
      orders_are = λ e. absurd (not_none both (flat_map process_cycles (ps ++ p ∷ [])) told
          (λ none. empty_not (process_cycles p) is.0 is.2 (nil_of (flat_map process_cycles ps) (process_cycles p) (sym (cycles_push ps p) ∙ none))) e);
      none = λ e. subst (λ (o : Option ℕ). Marks o (flat_map process_cycles (ps ++ p ∷ []))) e told;
    }
