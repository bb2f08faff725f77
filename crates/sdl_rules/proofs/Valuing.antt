-- A synonym has the value of its expression if the declarations break no rule.
use Rattle.std.proofs.Common.{◌≡◌, ℕ, ◌<◌, ◌≤◌, nat_lt, ℤ, pos, Bool, true, false, not, cond, ◌||◌, ◌&&◌, List, [], ◌∷◌, ◌++◌, Option, Some, None, refl, sym, ap, ◌∙◌, subst, arith}
use Rattle.std.specs.Prelude.{nat_le, int_lt, neg_ℤ, ◌+ℤ◌, ◌-ℤ◌, ◌*ℤ◌, FitsSigned, is_some, unwrap_or, option_and_then}
use Rattle.std.specs.Int.{w32}
use Rattle.std.specs.List.{flat_map}
use Rattle.std.proofs.lemmas.Bool.Decides.{nat_tests}
use Rattle.std.proofs.lemmas.Int.{ints, int_wrap_fits}
use Rattle.std.proofs.lemmas.Grind.{flat_map-append}
use Rattle.plain_laws.proofs.Lists.{append-nil_left, append-nil_right}
use Rattle.sdl_lex.specs.Limits.{GREATEST_NUMBER}
use Rattle.sdl_ast.specs.declared.tree.Sort.{Sort}
use Rattle.sdl_ast.specs.declared.tree.Sort.TheVariants.{Integer, Boolean}
use Rattle.sdl_ast.specs.declared.expression.UnaryOperator.{UnaryOperator}
use Rattle.sdl_ast.specs.declared.expression.UnaryOperator.TheVariants.{Negate, Not}
use Rattle.sdl_ast.specs.declared.expression.BinaryOperator.{BinaryOperator}
use Rattle.sdl_ast.specs.declared.expression.BinaryOperator.TheVariants.{Or, Xor, And, Equal, NotEqual, Less, LessEqual, Greater, GreaterEqual, Add, Subtract, Multiply, Divide, Modulo, Remainder}
use Rattle.sdl_ast.specs.Plain.{Tree, number, truth, variable, unary, binary, PlainSynonym, PlainProcess, PlainBlock}
use Rattle.sdl_ast.specs.Places.{place_of}
use Rattle.turn_code.specs.Values.{wrap, holds, differ}
use Rattle.turn_code.specs.declared.value.Value.{Value}
use Rattle.turn_code.specs.declared.value.Value.TheVariants.{Int, Bool as Truth}
use Rattle.turn_code.specs.declared.instruction.Relation.{Relation}
use Rattle.turn_code.specs.declared.instruction.Relation.TheVariants as relations
use Rattle.sdl_tables.specs.Names.{processes_of}
use Rattle.sdl_sound.specs.Names.{tree_names}
use Rattle.sdl_sound.specs.Sorts.{same_sort, has_sort, have_one_sort, unary_sort, binary_sort, operand_sort, sort_in, misfit, wrong_operands, wrong_in}
use Rattle.sdl_sound.specs.Divisors.{divides, is_divisor, bad_divisor, bad_divisors_in}
use Rattle.sdl_sound.specs.Longest.{is_division}
use Rattle.sdl_meaning.specs.Act.{reckons, compares, joins, apply_two, divisor_of, divide, quotient}
use Rattle.sdl_meaning.specs.Outcomes.{in_trouble, goes_on, over}
use Rattle.sdl_meaning.specs.Valued.{fresh, found, is_truth, made_of_one, made_of_two, quotient_of, valued}
use Rattle.sdl_meaning.proofs.Sorting.{passed, fits}
use Rattle.turn_code.specs.declared.trouble.Trouble.TheVariants.{WrongSort}
use Rattle.sdl_rules.specs.Synonyms.{Known, Sight, sort_of_value, seen, node, node_or, expanded_tree, synonym_sort, no_value, value_for, value_of_synonym, and_synonym}
use Rattle.sdl_rules.specs.Expansion.{synonyms_of, own_synonyms_of, first_sight, block_known, outer_sight, process_sight}
use Rattle.sdl_rules.specs.Faults.{Places, both, all_places, unseen, other_sort, synonym_places, synonyms_places, constants_places, process_constants, process_places, block_places}
use Rattle.sdl_rules.specs.Texts.{WellDeclared}
use Rattle.sdl_rules.specs.Laws.{AreValued, AreAllValued, HaveValues}

-- ---- the results of operators

record Made (o : Option Value) (s : Sort) : Type 0 where
  value : Value
  is : o ≡ Some value
  sort : sort_of_value value ≡ s

one_made : (op : UnaryOperator) (x : Value) → sort_of_value x ≡ unary_sort op → Made (made_of_one op x) (unary_sort op)
one_made Negate (Int x) e = record { value = Int (wrap (neg_ℤ x)); is = refl; sort = refl }
one_made Negate (Truth b) e = absurd (let k : ⊥ = cc in k)
one_made Not (Int x) e = absurd (let k : ⊥ = cc in k)
one_made Not (Truth b) e = record { value = Truth (not b); is = refl; sort = refl }

reckoned : (f : ℤ → ℤ → ℤ) (x y : Value) → sort_of_value x ≡ Integer → sort_of_value y ≡ Integer → Made (found (apply_two (reckons f) x y fresh)) Integer
reckoned f (Int x) (Int y) e h = record { value = Int (wrap (f x y)); is = refl; sort = refl }
reckoned f (Int x) (Truth b) e h = absurd (let k : ⊥ = cc in k)
reckoned f (Truth b) y e h = absurd (let k : ⊥ = cc in k)

compared : (r : Relation) (x y : Value) → sort_of_value x ≡ Integer → sort_of_value y ≡ Integer → Made (found (apply_two (compares r) x y fresh)) Boolean
compared r (Int x) (Int y) e h = record { value = Truth (holds r x y); is = refl; sort = refl }
compared r (Int x) (Truth b) e h = absurd (let k : ⊥ = cc in k)
compared r (Truth b) y e h = absurd (let k : ⊥ = cc in k)

combined : (f : Bool → Bool → Bool) (x y : Value) → sort_of_value x ≡ Boolean → sort_of_value y ≡ Boolean → Made (found (apply_two (joins f) x y fresh)) Boolean
combined f (Truth a) (Truth b) e h = record { value = Truth (f a b); is = refl; sort = refl }
combined f (Truth a) (Int y) e h = absurd (let k : ⊥ = cc in k)
combined f (Int x) y e h = absurd (let k : ⊥ = cc in k)

same_sorts : (s r : Sort) → same_sort s r ≡ true → r ≡ s
same_sorts Integer Integer e = refl
same_sorts Integer Boolean e = absurd (let k : ⊥ = cc in k)
same_sorts Boolean Integer e = absurd (let k : ⊥ = cc in k)
same_sorts Boolean Boolean e = refl

two_made : (op : BinaryOperator) (x y : Value) → is_division op ≡ false
    → have_one_sort (operand_sort op (Some (sort_of_value x))) (Some (sort_of_value x)) ≡ true
    → have_one_sort (operand_sort op (Some (sort_of_value x))) (Some (sort_of_value y)) ≡ true → Made (made_of_two op x y) (binary_sort op)
two_made Or x y d e h = combined (λ a b. a || b) x y (same_sorts Boolean (sort_of_value x) e) (same_sorts Boolean (sort_of_value y) h)
two_made Xor x y d e h = combined differ x y (same_sorts Boolean (sort_of_value x) e) (same_sorts Boolean (sort_of_value y) h)
two_made And x y d e h = combined (λ a b. a && b) x y (same_sorts Boolean (sort_of_value x) e) (same_sorts Boolean (sort_of_value y) h)
two_made Equal (Int x) (Int y) d e h = record { value = Truth (holds relations.Equal x y); is = refl; sort = refl }
two_made Equal (Int x) (Truth b) d e h = absurd (let k : ⊥ = cc in k)
two_made Equal (Truth a) (Int y) d e h = absurd (let k : ⊥ = cc in k)
two_made Equal (Truth a) (Truth b) d e h = record { value = Truth (not (differ a b)); is = refl; sort = refl }
two_made NotEqual (Int x) (Int y) d e h = record { value = Truth (holds relations.NotEqual x y); is = refl; sort = refl }
two_made NotEqual (Int x) (Truth b) d e h = absurd (let k : ⊥ = cc in k)
two_made NotEqual (Truth a) (Int y) d e h = absurd (let k : ⊥ = cc in k)
two_made NotEqual (Truth a) (Truth b) d e h = record { value = Truth (differ a b); is = refl; sort = refl }
two_made Less x y d e h = compared relations.Less x y (same_sorts Integer (sort_of_value x) e) (same_sorts Integer (sort_of_value y) h)
two_made LessEqual x y d e h = compared relations.LessEqual x y (same_sorts Integer (sort_of_value x) e) (same_sorts Integer (sort_of_value y) h)
two_made Greater x y d e h = compared relations.Greater x y (same_sorts Integer (sort_of_value x) e) (same_sorts Integer (sort_of_value y) h)
two_made GreaterEqual x y d e h = compared relations.GreaterEqual x y (same_sorts Integer (sort_of_value x) e) (same_sorts Integer (sort_of_value y) h)
two_made Add x y d e h = reckoned (λ a b. a +ℤ b) x y (same_sorts Integer (sort_of_value x) e) (same_sorts Integer (sort_of_value y) h)
two_made Subtract x y d e h = reckoned (λ a b. a -ℤ b) x y (same_sorts Integer (sort_of_value x) e) (same_sorts Integer (sort_of_value y) h)
two_made Multiply x y d e h = reckoned (λ a b. a *ℤ b) x y (same_sorts Integer (sort_of_value x) e) (same_sorts Integer (sort_of_value y) h)
two_made Divide x y d e h = absurd (let k : ⊥ = cc in k)
two_made Modulo x y d e h = absurd (let k : ⊥ = cc in k)
two_made Remainder x y d e h = absurd (let k : ⊥ = cc in k)

-- ---- division

positive : (k : ℕ) → nat_lt 0 k && nat_le k GREATEST_NUMBER ≡ true → int_lt (pos 0) (wrap (pos k)) ≡ true
positive k e =
    let a : 0 < k = grind (arith, nat_tests) in
    let b : k ≤ 2147483647 = grind (arith, nat_tests) in
    let fit : FitsSigned w32 (pos k) = omega (arith, ints, b) in
    let same : wrap (pos k) ≡ pos k = int_wrap_fits w32 (pos k) fit in
    let more : int_lt (pos 0) (pos k) ≡ true = grind (arith, ints, a) in
    ap (int_lt (pos 0)) same ∙ more

divided : (op : BinaryOperator) (k : ℤ) (x : Value) → sort_of_value x ≡ Integer → int_lt (pos 0) k ≡ true → Made (found (divide op k x fresh)) Integer
divided op k (Int x) e more = record {
  value = Int (quotient op x k);
  is = ap (λ b. found (cond b (goes_on (Int (quotient op x k)) fresh) (over (in_trouble WrongSort) fresh))) more;
  sort = refl;
}
divided op k (Truth b) e more = absurd (let k : ⊥ = cc in k)

quotient_made : (op : BinaryOperator) (u : Tree) (x : Value) → sort_of_value x ≡ Integer → is_divisor u ≡ true → Made (quotient_of op u x) Integer
quotient_made op (number at k) x e h = divided op (wrap (pos k)) x e (positive k h)
quotient_made op (truth at b) x e h = absurd (let k : ⊥ = cc in k)
quotient_made op (variable at id) x e h = absurd (let k : ⊥ = cc in k)
quotient_made op (unary at o t) x e h = absurd (let k : ⊥ = cc in k)
quotient_made op (binary at o t u) x e h = absurd (let k : ⊥ = cc in k)

is_positive : (b : Bool) (at : ℕ) → cond (not b) (at ∷ []) [] ≡ [] → b ≡ true
is_positive true at e = refl
is_positive false at e = absurd (let k : ⊥ = cc in k)

division_made : (op : BinaryOperator) (u : Tree) (x : Value) → is_division op ≡ true → bad_divisor op u ≡ []
    → have_one_sort (operand_sort op (Some (sort_of_value x))) (Some (sort_of_value x)) ≡ true → Made (quotient_of op u x) (binary_sort op)
division_made Divide u x d bad e = quotient_made Divide u x (same_sorts Integer (sort_of_value x) e) (is_positive (is_divisor u) (place_of u) bad)
division_made Modulo u x d bad e = quotient_made Modulo u x (same_sorts Integer (sort_of_value x) e) (is_positive (is_divisor u) (place_of u) bad)
division_made Remainder u x d bad e = quotient_made Remainder u x (same_sorts Integer (sort_of_value x) e) (is_positive (is_divisor u) (place_of u) bad)
division_made Or u x d bad e = absurd (let k : ⊥ = cc in k)
division_made Xor u x d bad e = absurd (let k : ⊥ = cc in k)
division_made And u x d bad e = absurd (let k : ⊥ = cc in k)
division_made Equal u x d bad e = absurd (let k : ⊥ = cc in k)
division_made NotEqual u x d bad e = absurd (let k : ⊥ = cc in k)
division_made Less u x d bad e = absurd (let k : ⊥ = cc in k)
division_made LessEqual u x d bad e = absurd (let k : ⊥ = cc in k)
division_made Greater u x d bad e = absurd (let k : ⊥ = cc in k)
division_made GreaterEqual u x d bad e = absurd (let k : ⊥ = cc in k)
division_made Add u x d bad e = absurd (let k : ⊥ = cc in k)
division_made Subtract u x d bad e = absurd (let k : ⊥ = cc in k)
division_made Multiply u x d bad e = absurd (let k : ⊥ = cc in k)

-- ---- an expression without names that breaks no rule has a value of its sort

record HasValue (t : Tree) : Type 0 where
  value : Value
  is : valued [] t [] ≡ Some value
  sort : sort_in [] t ≡ Some (sort_of_value value)

inside : (s r : Sort) → (let o : Option Sort = Some s in o) ≡ Some r → s ≡ r
inside s r e = let k : s ≡ r = cc in k

unary_value : (at : ℕ) (op : UnaryOperator) (t : Tree) (v : HasValue t) → misfit [] (Some (unary_sort op)) t ≡ [] → HasValue (unary at op t)
unary_value at op t v fit =
    let m = one_made op v.value (inside (sort_of_value v.value) (unary_sort op) (sym v.sort ∙ fits [] (unary_sort op) t fit)) in
    record { value = m.value; is = ap (option_and_then (made_of_one op)) v.is ∙ m.is; sort = ap (λ s. Some s) (sym m.sort) }

-- the sorts of both operands
operand_fits : (op : BinaryOperator) (t u : Tree) (x y : Value) → sort_in [] t ≡ Some (sort_of_value x) → sort_in [] u ≡ Some (sort_of_value y)
    → misfit [] (operand_sort op (sort_in [] t)) u ≡ [] → have_one_sort (operand_sort op (Some (sort_of_value x))) (Some (sort_of_value y)) ≡ true
operand_fits op t u x y left right fit =
    let kept = passed (have_one_sort (operand_sort op (sort_in [] t)) (sort_in [] u)) (place_of u) fit in
    ap (λ (o : Option Sort). have_one_sort (operand_sort op o) (Some (sort_of_value y))) (sym left)
    ∙ (ap (λ (o : Option Sort). have_one_sort (operand_sort op (sort_in [] t)) o) (sym right) ∙ kept)

binary_by : (at : ℕ) (op : BinaryOperator) (t u : Tree) (d : Bool) → is_division op ≡ d → (v : HasValue t) → HasValue u → wrong_operands [] op t u ≡ [] → bad_divisor op u ≡ []
    → HasValue (binary at op t u)
binary_by at op t u true d v w wrong bad =
    let first = operand_fits op t t v.value v.value v.sort v.sort
    (append-nil_left (misfit [] (operand_sort op (sort_in [] t)) t) (misfit [] (operand_sort op (sort_in [] t)) u) wrong) in
    let m = division_made op u v.value d bad first in
    let go : Bool → Value → Option Value = λ b x. cond b (quotient_of op u x) (option_and_then (made_of_two op x) (valued [] u [])) in
    record {
      value = m.value;
      is = ap (option_and_then (go (is_division op))) v.is ∙ (ap (λ b. go b v.value) d ∙ m.is);
      sort = ap (λ s. Some s) (sym m.sort);
    }
binary_by at op t u false d v w wrong bad =
    let first = operand_fits op t t v.value v.value v.sort v.sort
    (append-nil_left (misfit [] (operand_sort op (sort_in [] t)) t) (misfit [] (operand_sort op (sort_in [] t)) u) wrong) in
    let second = operand_fits op t u v.value w.value v.sort w.sort
    (append-nil_right (misfit [] (operand_sort op (sort_in [] t)) t) (misfit [] (operand_sort op (sort_in [] t)) u) wrong) in
    let m = two_made op v.value w.value d first second in
    let go : Bool → Value → Option Value = λ b x. cond b (quotient_of op u x) (option_and_then (made_of_two op x) (valued [] u [])) in
    record {
      value = m.value;
      is = ap (option_and_then (go (is_division op))) v.is ∙ (ap (λ b. go b v.value) d ∙ (ap (option_and_then (made_of_two op v.value)) w.is ∙ m.is));
      sort = ap (λ s. Some s) (sym m.sort);
    }

has_value : (t : Tree) → tree_names t ≡ [] → wrong_in [] t ≡ [] → bad_divisors_in t ≡ [] → HasValue t
has_value (number at k) closed sorted divided = record { value = Int (wrap (pos k)); is = refl; sort = refl }
has_value (truth at b) closed sorted divided = record { value = Truth b; is = refl; sort = refl }
has_value (variable at id) closed sorted divided = absurd (let k : ⊥ = cc in k)
has_value (unary at op t) closed sorted divided =
    let here = append-nil_left (wrong_in [] t) (misfit [] (Some (unary_sort op)) t) sorted in
    unary_value at op t (has_value t closed here divided) (append-nil_right (wrong_in [] t) (misfit [] (Some (unary_sort op)) t) sorted)
has_value (binary at op t u) closed sorted divided =
    let later = append-nil_right (wrong_in [] t) (wrong_in [] u ++ wrong_operands [] op t u) sorted in
    let rest = append-nil_right (bad_divisors_in t) (bad_divisors_in u ++ bad_divisor op u) divided in
    let left = has_value t (append-nil_left (tree_names t) (tree_names u) closed) (append-nil_left (wrong_in [] t) (wrong_in [] u ++ wrong_operands [] op t u) sorted)
    (append-nil_left (bad_divisors_in t) (bad_divisors_in u ++ bad_divisor op u) divided) in
    let right = has_value u (append-nil_right (tree_names t) (tree_names u) closed) (append-nil_left (wrong_in [] u) (wrong_operands [] op t u) later)
    (append-nil_left (bad_divisors_in u) (bad_divisor op u) rest) in
    binary_by at op t u (is_division op) refl left right (append-nil_right (wrong_in [] u) (wrong_operands [] op t u) later) (append-nil_right (bad_divisors_in u) (bad_divisor op u) rest)

-- ---- the expression of a synonym, with values in place of names

node_closed : (at : ℕ) (v : Value) → tree_names (node at v) ≡ []
node_closed at (Int x) = refl
node_closed at (Truth b) = refl

variable_closed : (t : Tree) (at place : ℕ) (o : Option Value) → cond (is_some o) [] (place ∷ []) ≡ [] → tree_names (node_or t at o) ≡ []
variable_closed t at place None e = absurd (let k : ⊥ = cc in k)
variable_closed t at place (Some v) e = node_closed at v

expanded_closed : (s : Sight) (t : Tree) → flat_map (unseen s) (tree_names t) ≡ [] → tree_names (expanded_tree s t) ≡ []
expanded_closed s (number at k) e = refl
expanded_closed s (truth at b) e = refl
expanded_closed s (variable at id) e = variable_closed (variable at id) at id.at (seen s id.name) (append-nil_left (unseen s id) [] e)
expanded_closed s (unary at op t) e = expanded_closed s t e
expanded_closed s (binary at op t u) e =
    let parts = sym (flat_map-append (unseen s) (tree_names t) (tree_names u)) ∙ e in
    ap (λ l. l ++ tree_names (expanded_tree s u)) (expanded_closed s t (append-nil_left (flat_map (unseen s) (tree_names t)) (flat_map (unseen s) (tree_names u)) parts))
    ∙ expanded_closed s u (append-nil_right (flat_map (unseen s) (tree_names t)) (flat_map (unseen s) (tree_names u)) parts)

itself : (s : Sort) → same_sort s s ≡ true
itself Integer = refl
itself Boolean = refl

taken : (want : Sort) (v : Value) → want ≡ sort_of_value v → value_for want (Some v) ≡ v
taken want v e = ap (λ (b : Bool). cond b v (no_value want)) (ap (λ (x : Sort). same_sort x (sort_of_value v)) e ∙ itself (sort_of_value v))

wanted : (written : Option Sort) (t : Tree) (v : Value) → sort_in [] t ≡ Some (sort_of_value v) → other_sort written t ≡ [] → synonym_sort written t ≡ sort_of_value v
wanted None t v sort other = ap (λ (o : Option Sort). unwrap_or o Integer) sort
wanted (Some want) t v sort other = inside want (sort_of_value v) (sym (fits [] want t other) ∙ sort)

synonym_valued : (s : Sight) (d : PlainSynonym) → (synonym_places s d).unknown ≡ [] → (synonym_places s d).wrong ≡ [] → (synonym_places s d).divisors ≡ []
    → valued [] (expanded_tree s d.value) [] ≡ Some (value_of_synonym s d)
synonym_valued s d unknown wrong divisors =
    let t = expanded_tree s d.value in
    let v = has_value t (expanded_closed s d.value unknown) (append-nil_left (wrong_in [] t) (other_sort d.sort t) wrong) divisors in
    let want = wanted d.sort t v.value v.sort (append-nil_right (wrong_in [] t) (other_sort d.sort t) wrong) in
    v.is ∙ ap (λ x. Some x) (sym (ap (value_for (synonym_sort d.sort t)) v.is ∙ taken (synonym_sort d.sort t) v.value want))

-- no place in any of the three lists
record NonePlaces (p : Places) : Type 0 where
  unknown : p.unknown ≡ []
  wrong : p.wrong ≡ []
  divisors : p.divisors ≡ []

first_none : (p q : Places) → NonePlaces (both p q) → NonePlaces p
first_none p q h = record {
  unknown = append-nil_left p.unknown q.unknown h.unknown;
  wrong = append-nil_left p.wrong q.wrong h.wrong;
  divisors = append-nil_left p.divisors q.divisors h.divisors;
}

second_none : (p q : Places) → NonePlaces (both p q) → NonePlaces q
second_none p q h = record {
  unknown = append-nil_right p.unknown q.unknown h.unknown;
  wrong = append-nil_right p.wrong q.wrong h.wrong;
  divisors = append-nil_right p.divisors q.divisors h.divisors;
}

are_valued : (s : Sight) (ds : List PlainSynonym) → NonePlaces (synonyms_places s ds) → AreValued s ds
are_valued s [] h = tt
are_valued s (d ∷ ds) h =
    let one = first_none (synonym_places s d) (synonyms_places (and_synonym s d) ds) h in
    (synonym_valued s d one.unknown one.wrong one.divisors, are_valued (and_synonym s d) ds (second_none (synonym_places s d) (synonyms_places (and_synonym s d) ds) h))

all_valued : (k : Known) (ps : List PlainProcess) → NonePlaces (all_places (process_places k) ps) → AreAllValued k ps
all_valued k [] h = tt
all_valued k (p ∷ ps) h =
    let one : NonePlaces (process_places k p) = first_none (process_places k p) (all_places (process_places k) ps) h in
    let own = first_none (synonyms_places (outer_sight k p) (own_synonyms_of p)) (constants_places (process_sight k p) (process_constants p)) one in
    (are_valued (outer_sight k p) (own_synonyms_of p) own, all_valued k ps (second_none (process_places k p) (all_places (process_places k) ps) h))

pub block_values : (b : PlainBlock) → WellDeclared b → HaveValues b
block_values b w =
    let all : NonePlaces (block_places b) = record { unknown = w.known; wrong = w.sorted; divisors = w.divided } in
    let own = synonyms_places first_sight (synonyms_of b) in
    let inner = all_places (process_places (block_known b)) (processes_of b) in
    record { block = are_valued first_sight (synonyms_of b) (first_none own inner all); processes = all_valued (block_known b) (processes_of b) (second_none own inner all) }
