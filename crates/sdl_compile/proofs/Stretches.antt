-- Places one after another: the claims about each agree with the state in which it is reached.
use Rattle.sdl_compile.proofs.Actions.{Stands}
use Rattle.sdl_meaning.specs.Code.{jump, range_code}
use Rattle.sdl_meaning.specs.Outcomes.{Scope}
use Rattle.turn_code.specs.declared.value.Sort.TheVariants.{Integer}
use Rattle.sdl_ast.specs.declared.tree.Range.TheVariants as ranges
use Rattle.sdl_ast.specs.declared.tree.Range.{Range}
use Rattle.std.proofs.Common.{◌≡◌, ℕ, ◌+◌, ◌<◌, List, [], ◌∷◌, ◌++◌, length, Some, refl, sym, ap, ◌∙◌, subst, arith}
use Rattle.std.specs.Prelude.{slice_get, All}
use Rattle.std.proofs.lemmas.List.Elements.{All-nil}
use Rattle.turn_code.specs.declared.value.Sort.{Sort}
use Rattle.turn_code.specs.declared.instruction.Instruction.{Instruction}
use Rattle.turn_code.specs.declared.variable_set.VariableSet.{VariableSet}
use Rattle.turn_code.specs.declared.draft.Draft.{Draft}
use Rattle.turn_code.specs.Sets.{Has, IsWithin}
use Rattle.turn_code.specs.Code.{shape_left, shape_after, set_after, jumps, behind}
use Rattle.turn_code.specs.Transitions.{Transition}
use Rattle.sdl_compile.specs.Facts.{shapes_from}
use Rattle.sdl_compile.proofs.Straight.{IsRight, AreRight, AreSteps}
use Rattle.sdl_compile.proofs.PlaceStretches.{left_set, left_shape}
use Rattle.sdl_compile.proofs.Rights.{one_of as one_at, plain_right}
use Rattle.sdl_compile.proofs.Spots.{Spot, instructions, shapes, over}
use Rattle.turn_code.proofs.Lists.{within as there}
use Rattle.sdl_sound.proofs.Lists.{get_one as same_some}

module _ (d : Draft) (t : Transition) (all : List Spot) where
  abbrev pub A : Instruction → List Sort → List Sort
  A x s = shape_after d.signals t.process.variables t.parameters x s

  abbrev pub O : List Sort → VariableSet → List Instruction → List Spot
  O s m code = over d.signals t.process.variables t.parameters s m code

  -- The claims about a place agree with the operands and the set on arrival there.
  pub record Enters (s : List Sort) (m : VariableSet) (j : ℕ) : Type 0 where
    pub inside : j < length all
    pub facts : (g : Spot) → slice_get all j ≡ Some g → (g.shape ≡ s) × IsWithin g.set m

  pub record IsFine (k : ℕ) (p : Spot) : Type 0 where
    pub right : IsRight d t p.shape p.set p.instruction
    pub going : All (Enters (A p.instruction p.shape) (set_after p.instruction p.set)) (behind p.instruction k)
    pub jumping : All (Enters (shape_left d.signals t.process.variables p.instruction p.shape) (set_after p.instruction p.set)) (jumps p.instruction)

  abbrev pub AllFine : ℕ → List Spot → Type 0
  AllFine k [] = Unit {0}
  AllFine k (p ∷ ps) = IsFine k p × AllFine (k + 1) ps

  abbrev pub HasSpots : ℕ → List Spot → Type 0
  HasSpots k [] = Unit {0}
  HasSpots k (p ∷ ps) = (slice_get all k ≡ Some p) × HasSpots (k + 1) ps

  -- The shape of each place is the shape after the instruction before it.
  abbrev pub Chain : List Sort → List Spot → List Sort → Type 0
  Chain s [] s2 = s ≡ s2
  Chain s (p ∷ ps) s2 = (p.shape ≡ s) × Chain (A p.instruction s) ps s2

  pub has_front : (a b : List Spot) (k : ℕ) → HasSpots k (a ++ b) → HasSpots k a
  has_front [] b k h = tt
  has_front (p ∷ a) b k h = (h.0, has_front a b (k + 1) h.1)

  pub has_back : (a b : List Spot) (k n : ℕ) → k + length a ≡ n → HasSpots k (a ++ b) → HasSpots n b
  has_back [] b k n e h = let f : k ≡ n = omega (arith, e) in subst (λ k. HasSpots k b) f h
  has_back (p ∷ a) b k n e h = has_back a b (k + 1) n (omega (arith, e)) h.1

  pub fine_append : (a b : List Spot) (k n : ℕ) → k + length a ≡ n → AllFine k a → AllFine n b → AllFine k (a ++ b)
  fine_append [] b k n e f g = let h : n ≡ k = omega (arith, e) in subst (λ k. AllFine k b) h g
  fine_append (p ∷ a) b k n e f g = (f.0, fine_append a b (k + 1) n (omega (arith, e)) f.1 g)

  pub chain_append : (a b : List Spot) (s s2 s3 : List Sort) → Chain s a s2 → Chain s2 b s3 → Chain s (a ++ b) s3
  chain_append [] b s s2 s3 e h = subst (λ s. Chain s b s3) (sym e) h
  chain_append (p ∷ a) b s s2 s3 e h = (e.0, chain_append a b (A p.instruction s) s2 s3 e.1 h)

  pub enters_here : (k : ℕ) (p : Spot) → slice_get all k ≡ Some p → Enters p.shape p.set k
  enters_here k p e = record {
    inside = there all k p e;
    facts = λ g f. let same = same_some (slice_get all k) p g e f in (sym (ap (λ (p : Spot). p.shape) same), λ v has. subst (λ (p : Spot). Has p.set v) (sym same) has);
  }

  pub enters_more : (s : List Sort) (m m2 : VariableSet) (j : ℕ) → IsWithin m m2 → Enters s m j → Enters s m2 j
  enters_more s m m2 j h e = record { inside = e.inside; facts = λ g f. let k = e.facts g f in (k.0, λ v has. h v (k.1 v has)) }

  pub chain_shapes : (l : List Spot) (s s2 : List Sort) → Chain s l s2 → shapes l ≡ shapes_from d.signals t.process.variables t.parameters s (instructions l)
  chain_shapes [] s s2 h = refl
  chain_shapes (p ∷ l) s s2 h = ap (λ x. x ∷ shapes l) h.0 ∙ ap (λ l. s ∷ l) (chain_shapes l (A p.instruction s) s2 h.1)

  -- ---- straight code

  pub record Stretch (k : ℕ) (s : List Sort) (m : VariableSet) (spots : List Spot) (s2 : List Sort) : Type 0 where
    pub fine : AllFine k spots
    pub enters : Enters s m k
    pub chain : Chain s spots s2

  pub straight : (code : List Instruction) (s : List Sort) (m : VariableSet) (k n : ℕ) → k + length code ≡ n → AreSteps code → AreRight d t s m code → HasSpots k (O s m code)
      → Enters (left_shape d.signals t.process.variables t.parameters s code) (left_set m code) n → Stretch k s m (O s m code) (left_shape d.signals t.process.variables t.parameters s code)
  straight [] s m k n e steps right has enters = let f : n ≡ k = omega (arith, e) in record { fine = tt; enters = subst (Enters s m) f enters; chain = refl }
  straight (x ∷ is) s m k n e steps right has enters =
      let more = straight is (A x s) (set_after x m) (k + 1) n (omega (arith, e)) steps.1 right.1 has.1 enters in
      record {
        fine = (
          record {
            right = right.0;
            going = subst (All (Enters (A x s) (set_after x m))) (sym (steps.0.going k)) (one_at (Enters (A x s) (set_after x m)) (k + 1) more.enters);
            jumping = subst (All (Enters (shape_left d.signals t.process.variables x s) (set_after x m))) (sym steps.0.jumping) (All-nil (Enters (shape_left d.signals t.process.variables x s) (set_after x m)));
          },
          more.fine,
        );
        enters = enters_here k (record { instruction = x; shape = s; set = m }) has.0;
        chain = (refl, more.chain);
      }

  -- One instruction.
  pub single : (x : Instruction) (s : List Sort) (m : VariableSet) (k : ℕ) → IsRight d t s m x → HasSpots k (O s m (x ∷ [])) → All (Enters (A x s) (set_after x m)) (behind x k)
      → All (Enters (shape_left d.signals t.process.variables x s) (set_after x m)) (jumps x) → Stretch k s m (O s m (x ∷ [])) (A x s)
  single x s m k right has going jumping = record {
    fine = (record { right = right; going = going; jumping = jumping }, tt);
    enters = enters_here k (record { instruction = x; shape = s; set = m }) has.0;
    chain = (refl, refl);
  }

-- ---- jumps and tests are right

module _ (d : Draft) (t : Transition) (c : Scope) (stands : Stands c d t) where
  abbrev Number : List Sort
  Number = Integer ∷ []

  pub jump_right : (n : ℕ) (m : VariableSet) → IsRight d t [] m (jump n)
  jump_right n m =
      plain_right c d t stands.sorted stands.variables (jump n) [] m
      (record { reads_none = refl; sets_none = refl; states_none = refl; parameters_none = refl; timers_none = refl; divisors_none = refl; output_none = tt }) (omega arith) tt

  pub test_right : (x : Instruction) (m : VariableSet) (n : ℕ) (r : Range) → range_code n r ≡ x → IsRight d t Number m x
  test_right x m n r e = subst (IsRight d t Number m) e (by_range r)
    where
      by_range : (r : Range) → IsRight d t Number m (range_code n r)
      by_range (ranges.Value k) =
          plain_right c d t stands.sorted stands.variables (range_code n (ranges.Value k)) Number m
          (record { reads_none = refl; sets_none = refl; states_none = refl; parameters_none = refl; timers_none = refl; divisors_none = refl; output_none = tt }) (omega arith) (refl, tt)
      by_range (ranges.Compared at r k) =
          plain_right c d t stands.sorted stands.variables (range_code n (ranges.Compared at r k)) Number m
          (record { reads_none = refl; sets_none = refl; states_none = refl; parameters_none = refl; timers_none = refl; divisors_none = refl; output_none = tt }) (omega arith) (refl, tt)
      by_range (ranges.Between low high) =
          plain_right c d t stands.sorted stands.variables (range_code n (ranges.Between low high)) Number m
          (record { reads_none = refl; sets_none = refl; states_none = refl; parameters_none = refl; timers_none = refl; divisors_none = refl; output_none = tt }) (omega arith) (refl, tt)
