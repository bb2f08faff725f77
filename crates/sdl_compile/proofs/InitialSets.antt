-- Lists by place, the variables that are set from the start, and the sorts of initial values.
use Rattle.std.proofs.Common.{◌≡◌, ℕ, zero, suc, ◌+◌, ◌-◌, ◌*◌, ◌^◌, ◌<◌, Bool, true, false, ◌||◌, ◌&&◌, cond, List, [], ◌∷◌, ◌++◌, Option, Some, None, map, refl, sym, ap, ◌∙◌, subst, arith}
use Rattle.std.specs.Prelude.{slice_get, All, is_some, option_map, IfSome}
use Rattle.std.specs.Int.{bit_at}
use Rattle.std.specs.List.{AllZip, flat_map}
use Rattle.std.proofs.lemmas.List.Elements.{All-nil, All-cons}
use Rattle.std.proofs.lemmas.Nat.Bits.{bit_at_cat_high, bit_at_lowest}
use Rattle.sdl_ast.specs.declared.expression.Identifier.{Identifier}
use Rattle.sdl_ast.specs.declared.tree.Constant.{Constant}
use Rattle.sdl_ast.specs.declared.tree.Literal as literal
use Rattle.sdl_ast.specs.declared.tree.Literal.TheVariants as literals
use Rattle.sdl_ast.specs.declared.tree.Sort as tree_sort
use Rattle.sdl_ast.specs.declared.tree.Sort.TheVariants as tree_sorts
use Rattle.turn_code.specs.declared.value.Sort.{Sort}
use Rattle.turn_code.specs.Values.{sort_of}
use Rattle.turn_code.specs.Sets.{Has, initial_bits, initial_set}
use Rattle.turn_code.specs.Rules.{StartsRight}
use Rattle.sdl_tables.specs.Names.{Variable, Input, same_name}
use Rattle.sdl_sound.specs.Paths.{sets, sets_in, initial_sets}
use Rattle.sdl_sound.specs.Sorts.{same_sort, literal_sort, wrong_constant, wrong_initial}
use Rattle.sdl_meaning.specs.Outcomes.{Scope}
use Rattle.sdl_meaning.specs.Declarations.{sort_of_tree, literal_value, constant_value, drafted}
use Rattle.sdl_compile.specs.Drafts.{IsReadyInput, AreReady, AllReady}
use Rattle.sdl_meaning.proofs.Sorting.{passed}
use Rattle.sdl_compile.proofs.Walks.{by_bool}
use Rattle.plain_laws.proofs.Lists.{append-nil_left as nil_front, append-nil_right as nil_back}

-- ---- lists by place

-- The item paired with y at place k.
pub record Beside {A B : Type 0} (R : A → B → Type 0) (xs : List A) (k : ℕ) (y : B) : Type 0 where
  pub item : A
  pub there : slice_get xs k ≡ Some item
  pub holds : R item y

pub beside : {A B : Type 0} (R : A → B → Type 0) (xs : List A) (ys : List B) (k : ℕ) (y : B) → AllZip R xs ys → slice_get ys k ≡ Some y → Beside R xs k y
beside R [] [] k y h e = absurd (let k : ⊥ = cc in k)
beside R [] (z ∷ ys) k y h e = absurd h
beside R (x ∷ xs) [] k y h e = absurd h
beside R (x ∷ xs) (z ∷ ys) zero y h e = let f : z ≡ y = cc in record { item = x; there = refl; holds = subst (R x) f h.0 }
beside R (x ∷ xs) (z ∷ ys) (suc k) y h e =
    let r = beside R xs ys k y h.1 e in
    record { item = r.item; there = r.there; holds = r.holds }

pub first_of : (b : Bool) → b && true ≡ true → b ≡ true
first_of true e = refl
first_of false e = absurd (let k : ⊥ = cc in k)

pub ready_at : (c : Scope) (is : List Input) (k : ℕ) (i : Input) → AreReady c is → slice_get is k ≡ Some i → IsReadyInput c i
ready_at c [] k i h e = absurd (let k : ⊥ = cc in k)
ready_at c (j ∷ is) zero i h e = let f : j ≡ i = cc in subst (IsReadyInput c) f h.0
ready_at c (j ∷ is) (suc k) i h e = ready_at c is k i h.1 e

pub all_ready_at : (c : Scope) (iss : List (List Input)) (k : ℕ) (is : List Input) → AllReady c iss → slice_get iss k ≡ Some is → AreReady c is
all_ready_at c [] k i h e = absurd (let k : ⊥ = cc in k)
all_ready_at c (js ∷ iss) zero is h e = let f : js ≡ is = cc in subst (AreReady c) f h.0
all_ready_at c (js ∷ iss) (suc k) is h e = all_ready_at c iss k is h.1 e

-- ---- initial values

-- A variable with this name and an initial value.
pub record StartsSet (vs : List Variable) (x : List ℕ) : Type 0 where
  pub number : ℕ
  pub name : Identifier
  pub there : slice_get (map (λ (v : Variable). v.name) vs) number ≡ Some name
  pub same : same_name x name.name ≡ true
  pub set : Has (initial_set (map drafted vs)) number

-- Bit v of the set of all variables is that of the first variable, or bit v - 1 of the set of the others.
bit_first : (b n : ℕ) → b < 2 → bit_at (b + 2 * n) 0 ≡ b
bit_first b n small = bit_at_lowest (b + 2 * n) ∙ omega arith

bit_later : (b n v : ℕ) → b < 2 → bit_at (b + 2 * n) (suc v) ≡ bit_at n v
bit_later b n v small =
    let e : b + 2 * n ≡ n * 2 ^ 1 + b = omega arith in
    let k : suc v - 1 ≡ v = omega arith in
    ap (λ m. bit_at m (suc v)) e ∙ bit_at_cat_high n 1 b (suc v) small (omega arith) ∙ ap (bit_at n) k

small_bit : (b : Bool) → cond b 1 0 < 2
small_bit true = omega arith
small_bit false = omega arith

pub starts_set : (vs : List Variable) (x : List ℕ) → sets_in (flat_map initial_sets vs) x ≡ true → StartsSet vs x
starts_set [] x h = absurd (let k : ⊥ = cc in k)
starts_set (v ∷ vs) x h = by_initial v.initial refl (λ e. later (starts_set vs x e))
  where
    later : StartsSet vs x → StartsSet (v ∷ vs) x
    later r = record {
      number = suc r.number;
      name = r.name;
      there = r.there;
      same = r.same;
      set = bit_later (cond (is_some (option_map constant_value v.initial)) 1 0) (initial_bits (map drafted vs)) r.number (small_bit (is_some (option_map constant_value v.initial))) ∙ r.set;
    }

    by_initial : (o : Option Constant) → v.initial ≡ o → (sets_in (flat_map initial_sets vs) x ≡ true → StartsSet (v ∷ vs) x) → StartsSet (v ∷ vs) x
    by_initial None e more = more (ap (λ (o : Option Constant). sets_in (cond (is_some o) (sets v.name.name ∷ []) [] ++ flat_map initial_sets vs) x) (sym e) ∙ h)
    by_initial (Some k) e more =
        by_bool (same_name x v.name.name)
        (λ f. record {
          number = 0;
          name = v.name;
          there = refl;
          same = f;
          set = bit_first (cond (is_some (option_map constant_value v.initial)) 1 0) (initial_bits (map drafted vs)) (small_bit (is_some (option_map constant_value v.initial))) ∙ ap (λ o. cond (is_some (option_map constant_value o)) 1 0) e;
        })
        (λ f. more (ap (λ t. t || sets_in (flat_map initial_sets vs) x) (sym f) ∙ ap (λ (o : Option Constant). sets_in (cond (is_some o) (sets v.name.name ∷ []) [] ++ flat_map initial_sets vs) x) (sym e) ∙ h))

-- ---- initial values have their sorts

literal_sorted : (l : literal.Literal) → sort_of (literal_value l) ≡ sort_of_tree (literal_sort l)
literal_sorted (literals.Integer z) = refl
literal_sorted (literals.Boolean b) = refl

sorts_alike : (s r : tree_sort.Sort) → same_sort s r ≡ true → r ≡ s
sorts_alike tree_sorts.Integer tree_sorts.Integer e = refl
sorts_alike tree_sorts.Integer tree_sorts.Boolean e = absurd (let k : ⊥ = cc in k)
sorts_alike tree_sorts.Boolean tree_sorts.Integer e = absurd (let k : ⊥ = cc in k)
sorts_alike tree_sorts.Boolean tree_sorts.Boolean e = refl

starts_right : (s : tree_sort.Sort) (o : Option Constant) → wrong_constant s o ≡ [] → IfSome (option_map constant_value o) (λ x. sort_of x ≡ sort_of_tree s)
starts_right s None e = tt
starts_right s (Some k) e = literal_sorted k.value ∙ ap sort_of_tree (sorts_alike s (literal_sort k.value) (passed (same_sort s (literal_sort k.value)) k.at e))

pub all_start_right : (vs : List Variable) → flat_map wrong_initial vs ≡ [] → All StartsRight (map drafted vs)
all_start_right [] e = All-nil StartsRight
all_start_right (v ∷ vs) e =
    All-cons StartsRight (drafted v) (map drafted vs) (starts_right v.sort v.initial (nil_front (wrong_initial v) (flat_map wrong_initial vs) e)) (all_start_right vs (nil_back (wrong_initial v) (flat_map wrong_initial vs) e))
