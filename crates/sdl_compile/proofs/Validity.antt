-- A transition whose places are all right is valid.
use Rattle.std.proofs.Common.{◌≡◌, ℕ, zero, suc, ◌+◌, ◌<◌, List, [], ◌∷◌, length, map, Option, Some, None, refl, sym, ap, ◌∙◌, subst, arith}
use Rattle.std.specs.Prelude.{slice_get, option_map, All, Contains}
use Rattle.std.proofs.lemmas.List.{length-map}
use Rattle.std.proofs.lemmas.List.Elements.{All-append, All-weaker, All-contains, All-nil, All-cons}
use Rattle.std.proofs.lemmas.Option.{slice_get-map}
use Rattle.turn_code.specs.declared.value.Sort.{Sort}
use Rattle.turn_code.specs.declared.instruction.Instruction.{Instruction}
use Rattle.turn_code.specs.declared.variable_set.VariableSet.{VariableSet}
use Rattle.turn_code.specs.declared.draft.Draft.{Draft}
use Rattle.turn_code.specs.declared.draft.PlaceFacts.{PlaceFacts}
use Rattle.turn_code.specs.Sets.{IsWithin}
use Rattle.turn_code.specs.Code.{shape_left, shape_after, set_after, successors, behind, jumps}
use Rattle.turn_code.specs.Transitions.{Transition}
use Rattle.turn_code.specs.Rules.{StartsRight, HasTrigger, HasSaves, KeepsCounts, KeepsProcessLimits, KeepsPieceLimits}
use Rattle.turn_code.specs.Valid.{IsValidTransition}
use Rattle.sdl_compile.proofs.Straight.{IsRight}
use Rattle.sdl_compile.proofs.Spots.{Spot, instructions, shapes, sets_at}
use Rattle.sdl_compile.proofs.Stretches.{Enters, IsFine, AllFine}
use Rattle.sdl_sound.proofs.Lists.{get_one as one_item}

mapped : {A B : Type 0} (f : A → B) (o : Option A) (y : B) → option_map f o ≡ Some y → (x : A) × (o ≡ Some x) × (f x ≡ y)
mapped f None y e = absurd (let k : ⊥ = cc in k)
mapped f (Some x) y e = (x, refl, let g : f x ≡ y = cc in g)

-- The item of a list from which an item of another list was made.
pub item_of : {A B : Type 0} (f : A → B) (xs : List A) (ys : List B) (k : ℕ) (y : B) → ys ≡ map f xs → slice_get ys k ≡ Some y → (x : A) × (slice_get xs k ≡ Some x) × (f x ≡ y)
item_of f xs ys k y e h = mapped f (slice_get xs k) y (sym (slice_get-map f xs k) ∙ ap (λ l. slice_get l k) (sym e) ∙ h)

only_first : (P : ℕ → Type 0) → P 0 → (j : ℕ) → Contains (0 ∷ []) j → P j
only_first P h j there = All-contains P (0 ∷ []) j (All-cons P 0 [] h (All-nil P)) there

-- What the compiler knows of a transition.
pub record IsMade (d : Draft) (t : Transition) : Type 0 where
  pub places : List Spot
  pub code : t.piece.code ≡ instructions places
  pub shaped : map (λ (f : PlaceFacts). f.shape) t.piece.facts ≡ shapes places
  pub settled : map (λ (f : PlaceFacts). f.set) t.piece.facts ≡ sets_at places
  pub fine : AllFine d t places 0 places
  pub enters : Enters d t places [] t.entry 0
  pub first : (p : Spot) → slice_get places 0 ≡ Some p → p.set ≡ t.entry
  pub counts : (k : ℕ) → KeepsCounts t k
  pub initial : t.trigger ≡ None → All StartsRight t.process.variables
  pub trigger : HasTrigger d.signals t.process t.trigger
  pub saves : t.trigger ≡ None → All (HasSaves d.signals t.process) t.process.states
  pub process_limits : t.trigger ≡ None → KeepsProcessLimits t.process
  pub piece_limits : KeepsPieceLimits t.piece

module _ (d : Draft) (t : Transition) (made : IsMade d t) where
  abbrev all : List Spot
  all = made.places

  long : length all ≡ length t.piece.code
  long = sym (length-map all (λ (p : Spot). p.instruction)) ∙ ap length (sym made.code)

  -- The facts about a place.
  record Facts (k : ℕ) (f : PlaceFacts) : Type 0 where
    spot : Spot
    there : slice_get all k ≡ Some spot
    shape : spot.shape ≡ f.shape
    set : spot.set ≡ f.set

  facts_at : (k : ℕ) (f : PlaceFacts) → slice_get t.piece.facts k ≡ Some f → Facts k f
  facts_at k f e =
      let at_shape = slice_get-map (λ (f : PlaceFacts). f.shape) t.piece.facts k ∙ ap (option_map (λ (f : PlaceFacts). f.shape)) e in
      let at_set = slice_get-map (λ (f : PlaceFacts). f.set) t.piece.facts k ∙ ap (option_map (λ (f : PlaceFacts). f.set)) e in
      let x = item_of (λ (p : Spot). p.shape) all (map (λ (f : PlaceFacts). f.shape) t.piece.facts) k f.shape made.shaped at_shape in
      let y = item_of (λ (p : Spot). p.set) all (map (λ (f : PlaceFacts). f.set) t.piece.facts) k f.set made.settled at_set in
      let same = one_item (slice_get all k) y.0 x.0 y.1 x.1 in
      record { spot = x.0; there = x.1; shape = x.2; set = ap (λ (p : Spot). p.set) (sym same) ∙ y.2 }

  fine_at : (l : List Spot) (k j n : ℕ) (p : Spot) → k + j ≡ n → AllFine d t all k l → slice_get l j ≡ Some p → IsFine d t all n p
  fine_at [] k j n p e fine at = absurd (let k : ⊥ = cc in k)
  fine_at (q ∷ l) k zero n p e fine at =
      let same : q ≡ p = cc in
      let f : k ≡ n = omega (arith, e) in
      subst (λ k. IsFine d t all k p) f (subst (IsFine d t all k) same fine.0)
  fine_at (q ∷ l) k (suc j) n p e fine at = fine_at l (k + 1) j n p (omega (arith, e)) fine.1 at

  -- The instruction of a place.
  record Code (k : ℕ) (x : Instruction) : Type 0 where
    spot : Spot
    there : slice_get all k ≡ Some spot
    is : spot.instruction ≡ x
    fine : IsFine d t all k spot

  code_at : (k : ℕ) (x : Instruction) → slice_get t.piece.code k ≡ Some x → Code k x
  code_at k x e =
      let h = item_of (λ (p : Spot). p.instruction) all t.piece.code k x made.code e in
      record { spot = h.0; there = h.1; is = h.2; fine = fine_at all 0 k k h.0 (omega arith) made.fine h.1 }

  -- The facts and the instruction of a place.
  record Place (k : ℕ) (x : Instruction) (f : PlaceFacts) : Type 0 where
    right : IsRight d t f.shape f.set x
    going : All (Enters d t all (shape_after d.signals t.process.variables t.parameters x f.shape) (set_after x f.set)) (behind x k)
    jumping : All (Enters d t all (shape_left d.signals t.process.variables x f.shape) (set_after x f.set)) (jumps x)

  place_at : (k : ℕ) (x : Instruction) (f : PlaceFacts) → slice_get t.piece.code k ≡ Some x → slice_get t.piece.facts k ≡ Some f → Place k x f
  place_at k x f e g =
      let a = code_at k x e in
      let b = facts_at k f g in
      let same = one_item (slice_get all k) a.spot b.spot a.there b.there in
      let shape : a.spot.shape ≡ f.shape = ap (λ (p : Spot). p.shape) same ∙ b.shape in
      let set : a.spot.set ≡ f.set = ap (λ (p : Spot). p.set) same ∙ b.set in
      let here : PlaceFacts = record { shape = a.spot.shape; set = a.spot.set; count = f.count; effects = f.effects } in
      let own : Place k a.spot.instruction here = record { right = a.fine.right; going = a.fine.going; jumping = a.fine.jumping } in
      let alike : here ≡ f = ap (λ s. (let g : PlaceFacts = record { shape = s; set = a.spot.set; count = f.count; effects = f.effects } in g)) shape ∙ ap (λ m. (let g : PlaceFacts = record { shape = f.shape; set = m; count = f.count; effects = f.effects } in g)) set in
      subst (λ f. Place k x f) alike (subst (λ x. Place k x here) a.is own)

  first_at : (f : PlaceFacts) → slice_get t.piece.facts 0 ≡ Some f → (f.shape ≡ []) × (f.set ≡ t.entry)
  first_at f e =
      let b = facts_at 0 f e in
      (sym b.shape ∙ (made.enters.facts b.spot b.there).0, sym b.set ∙ made.first b.spot b.there)

  inside : (s : List Sort) (m : VariableSet) (js : List ℕ) → All (Enters d t all s m) js → All (λ j. j < length t.piece.code) js
  inside s m js h = All-weaker (Enters d t all s m) (λ j. j < length t.piece.code) (λ j e. subst (λ n. j < n) long e.inside) js h

  shape_of : (s : List Sort) (m : VariableSet) (js : List ℕ) → All (Enters d t all s m) js → (j : ℕ) (g : PlaceFacts) → Contains js j → slice_get t.piece.facts j ≡ Some g → g.shape ≡ s
  shape_of s m js h j g there at =
      let e = All-contains (Enters d t all s m) js j h there in
      let b = facts_at j g at in
      sym b.shape ∙ (e.facts b.spot b.there).0

  set_of : (s : List Sort) (m : VariableSet) (j : ℕ) (g : PlaceFacts) → Enters d t all s m j → slice_get t.piece.facts j ≡ Some g → IsWithin g.set m
  set_of s m j g e at =
      let b = facts_at j g at in
      subst (λ x. IsWithin x m) b.set (e.facts b.spot b.there).1

  -- The sets of the places where the code goes on.
  abbrev IsNext : VariableSet → ℕ → Type 0
  IsNext m j = (g : PlaceFacts) → slice_get t.piece.facts j ≡ Some g → IsWithin g.set m

  next_sets : (k : ℕ) (x : Instruction) (f : PlaceFacts) → Place k x f → All (IsNext (set_after x f.set)) (successors x k)
  next_sets k x f p =
      let m = set_after x f.set in
      let s = shape_after d.signals t.process.variables t.parameters x f.shape in
      let s2 = shape_left d.signals t.process.variables x f.shape in
      All-append (IsNext m) (jumps x) (behind x k)
      (All-weaker (Enters d t all s2 m) (IsNext m) (λ j e g at. set_of s2 m j g e at) (jumps x) p.jumping)
      (All-weaker (Enters d t all s m) (IsNext m) (λ j e g at. set_of s m j g e at) (behind x k) p.going)

  code_inside : (k : ℕ) (x : Instruction) → slice_get t.piece.code k ≡ Some x → All (λ j. j < length t.piece.code) (successors x k)
  code_inside k x e =
      let a = code_at k x e in
      let p = a.spot in
      let m = set_after p.instruction p.set in
      let s = shape_after d.signals t.process.variables t.parameters p.instruction p.shape in
      let s2 = shape_left d.signals t.process.variables p.instruction p.shape in
      subst (λ x. All (λ j. j < length t.piece.code) (successors x k)) a.is
      (All-append (λ j. j < length t.piece.code) (jumps p.instruction) (behind p.instruction k) (inside s2 m (jumps p.instruction) a.fine.jumping) (inside s m (behind p.instruction k) a.fine.going))

  pub record IsRightCode (x : Instruction) : Type 0 where
    pub shape : List Sort
    pub set : VariableSet
    pub right_of : IsRight d t shape set x

  code_right : (k : ℕ) (x : Instruction) → slice_get t.piece.code k ≡ Some x → IsRightCode x
  code_right k x e =
      let a = code_at k x e in
      record { shape = a.spot.shape; set = a.spot.set; right_of = subst (IsRight d t a.spot.shape a.spot.set) a.is a.fine.right }

  facts_long : length t.piece.facts ≡ length t.piece.code
  facts_long =
      sym (length-map t.piece.facts (λ (f : PlaceFacts). f.shape)) ∙ ap length made.shaped ∙ length-map all (λ (p : Spot). p.shape) ∙ long

  pub valid : IsValidTransition d t
  valid = record {
    jump = λ k. record {
      entry = λ _. subst (λ n. 0 < n) long made.enters.inside;
      each = λ x e. code_inside k x e;
    };
    shape = λ k. record {
      facts = λ _. facts_long;
      entry = λ _ j f there at. (only_first (λ j. slice_get t.piece.facts j ≡ Some f → (f.shape ≡ []) × (f.set ≡ t.entry)) (first_at f) j there at).0;
      each = λ x f e h j g there at. shape_of (shape_after d.signals t.process.variables t.parameters x f.shape) (set_after x f.set) (behind x k) (place_at k x f e h).going j g there at;
      jumped = λ x f e h j g there at. shape_of (shape_left d.signals t.process.variables x f.shape) (set_after x f.set) (jumps x) (place_at k x f e h).jumping j g there at;
    };
    under = λ k x f e h. (place_at k x f e h).right.under;
    sort = λ k. record {
      initial = λ _ none. made.initial none;
      each = λ x f e h. (place_at k x f e h).right.sort;
    };
    unset = λ k. record {
      entry = λ _ j f there at. (only_first (λ j. slice_get t.piece.facts j ≡ Some f → (f.shape ≡ []) × (f.set ≡ t.entry)) (first_at f) j there at).1;
      reads_set = λ x f e h. (place_at k x f e h).right.reads_set;
      each = λ x f e h j g there at. All-contains (IsNext (set_after x f.set)) (successors x k) j (next_sets k x f (place_at k x f e h)) there g at;
      states = λ x f e h. (place_at k x f e h).right.states;
    };
    state = λ k x e. (code_right k x e).right_of.states_there;
    number = λ k. record {
      trigger = λ _. made.trigger;
      saves = λ _ none. made.saves none;
      reads_there = λ x e. (code_right k x e).right_of.reads_there;
      sets_there = λ x e. (code_right k x e).right_of.sets_there;
      parameters = λ x e. (code_right k x e).right_of.parameters;
      timers = λ x e. (code_right k x e).right_of.timers;
      divisors = λ x e. (code_right k x e).right_of.divisors;
      outputs = λ x e. (code_right k x e).right_of.outputs;
    };
    limit = λ k. record {
      process = λ _ none. made.process_limits none;
      piece = λ _. made.piece_limits;
    };
    budget = made.counts;
  }
